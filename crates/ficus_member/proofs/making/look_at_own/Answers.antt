use Rattle.std.proofs.Common.{◌≡◌, ◌+◌, ◌-◌, ◌<◌, length, subst, arith}
use Rattle.std.proofs.lemmas.Result.{IfOk-weaker}
use Rattle.ficus_opening.specs.Check.Judged.{IsEmptyPair}
use Rattle.ficus_opening.proofs.Asking.{looked_one}
use Rattle.ficus_opening.proofs.Steadies.{number_at}
use Rattle.ficus_runs.specs.Numbered.{IsNumbered}
use Rattle.ficus_runs.proofs.Numbers.{number_once}
use Rattle.ficus_member.proofs.making.look_at_own.Goals as goal

pub returns-clause-empty : goal.returns-clause-empty
returns-clause-empty g c = λ tells.
    let disks = c.args.disks.now.items in
    let was = c.index_mut.result.now in
    let index : c.from-index.result - 1 + 1 ≡ c.args.me =
    omega (arith, c.from-index.ensures, c.requires.me.at_least) in
    let within : c.from-index.result - 1 < length disks =
    omega (arith, c.from-index.ensures, c.requires.me.at_least, c.requires.me.at_most, c.requires.pairs) in
    let at = subst (λ k. IsNumbered disks k was) index
    (number_at disks (c.from-index.result - 1) was within c.index_mut.ensures.value) in
    IfOk-weaker c.look_at.result _ _ (λ is same. (
      λ so own at_own. subst (λ p. IsEmptyPair g.D.Disk.seen p) (number_once at at_own) (same.0 so),
      λ all. same.1 (all was at),
    )) (c.look_at.ensures.empty tells)

pub returns-clause-looked : goal.returns-clause-looked
returns-clause-looked g c =
    let index : c.from-index.result - 1 + 1 ≡ c.args.me =
    omega (arith, c.from-index.ensures, c.requires.me.at_least) in
    let within : c.from-index.result - 1 < length c.args.disks.now.items =
    omega (arith, c.from-index.ensures, c.requires.me.at_least, c.requires.me.at_most, c.requires.pairs) in
    looked_one c.args.disks.now.items (c.from-index.result - 1) c.args.me c.index_mut.result.now c.look_at.new.pair index
    within c.index_mut.ensures.value c.look_at.ensures.looked
