use Rattle.std.proofs.Common.{◌≡◌, ℕ, ◌+◌, ◌-◌, ◌<◌, length, subst, arith}
use Rattle.std.specs.Prelude.{slice_set, IfOk}
use Rattle.ficus_opening.specs.Check.Judged.{IsJudged}
use Rattle.ficus_runs.specs.Numbered.{IsNumbered}
use Rattle.ficus_runs.proofs.Numbers.{number_once}
use Rattle.ficus_opening.specs.Rests.{RestsAt}
use Rattle.ficus_opening.proofs.Asking.{looked_one}
use Rattle.ficus_opening.proofs.Rests.{rests_pair}
use Rattle.ficus_opening.proofs.Steadies.{number_at}
use Rattle.ficus_opening.proofs.checking.check_disks.Goals as goal

pub returns : goal.returns
returns g c =
    let disks = c.args.disks.now.items in
    let was = c.index_mut.result.now in
    let now = c.check_one.new.pair in
    let index : c.from-index.result - 1 + 1 ≡ c.args.number =
    omega (arith, c.from-index.ensures, c.requires.number.at_least) in
    let place : c.args.number - 1 ≡ c.from-index.result - 1 = omega (arith, c.from-index.ensures) in
    let within : c.from-index.result - 1 < length disks =
    omega (arith, c.from-index.ensures, c.requires.number.at_least, c.requires.number.at_most, c.requires.pairs) in
    let at = subst (λ k. IsNumbered disks k was) index
    (number_at disks (c.from-index.result - 1) was within c.index_mut.ensures.value) in
    let one = c.check_one.ensures.looked in
    let all = looked_one disks (c.from-index.result - 1) c.args.number was now index within c.index_mut.ensures.value one in
    record {
      judged = λ tells pair is.
          subst (λ p. IfOk c.check_one.result (IsJudged g.K.Keep.kept g.D.Disk.seen c.args.number p)) (number_once at is)
          (c.check_one.ensures.judged tells tt);
      failed = λ r is. ((one.asked.failed r is).0, all.asked.failed r is);
      never_occupied = c.check_one.ensures.never_occupied;
      never_image = c.check_one.ensures.never_image;
      same = all.same;
      rests =
          subst (λ (k : ℕ). RestsAt g.D.Disk c.args.number disks (slice_set disks k now)) place
          (rests_pair g.D.Disk c.args.number disks was now at one.rests.within one.rests.leaves one.rests.spans);
      spared = all.asked.spared;
      steady = all.asked.steady;
      armings = all.asked.armings;
      pairs = all.asked.armings.count;
      unfailing = all.asked.unfailing;
    }
