use Rattle.std.proofs.Common.{◌+◌, ◌<◌, ◌≤◌, Err, subst, sym, ◌∙◌, arith}
use Rattle.std.proofs.lemmas.Result.{err_from_is_err_and}
use Rattle.ficus_model.specs.Lawful.{Volume}
use Rattle.ficus_runs.specs.Numbered.{IsNumbered}
use Rattle.ficus_opening.proofs.Made.{made_all, made_in_part, made_more, made_none, one_in_part, rests_before, some_made}
use Rattle.ficus_opening.proofs.Others.{others_none, others_set}
use Rattle.ficus_opening.proofs.Steadies.{next_at, steady_none, steady_set, synced_set}
use Rattle.ficus_opening.proofs.Unarmed.{regular_more, regular_none, unarmed_set}
use Rattle.ficus_opening.proofs.Asking.{disks_set, disks_steady}
use Rattle.ficus_opening.specs.Opening.{PairAsked}
use Rattle.ficus_opening.proofs.making.make_all.Goals as goal

pub loop-before-init : goal.loop-before-init
loop-before-init g c = record {
  made = λ tells. made_none g.K.Keep.kept g.D.Disk.seen _ c.args.disks.now.items;
  faults = steady_none g.D.Disk.faults c.args.disks.now.items;
  armings = steady_none g.D.Disk.armings c.args.disks.now.items;
  others = others_none c.args.members c.args.disks.now.items;
  synced = λ tells at_first. at_first;
  unarmed = λ fused none. none;
  regular = λ tells. regular_none g.K.Keep.Regular g.D.Disk.seen c.args.disks.now.items;
}

pub make_one-requires-clause-empty : goal.make_one-requires-clause-empty
make_one-requires-clause-empty g c = λ tells.
    let at : IsNumbered c.loop-before.disks.items (c.from.result + 1) c.index_mut-pair.result.now =
    next_at (c.loop-before.invariant.faults.count ∙ c.requires.pairs) c.loop-before-test.true c.count-before-end.ensures.value
    c.count-before-end.ensures.valid.at_most c.from.ensures c.index_mut-pair.ensures.value in
    let so = c.loop-before.invariant.made tells in
    let was = so.rest (c.from.result + 1) c.index_mut-pair.result.now at (omega (arith, c.from.ensures)) in
    let empty = c.requires.empty tells in
    empty.each (c.from.result + 1) c.index_mut-pair.result.now was
    (omega (arith, c.from.ensures, c.loop-before-test.true, c.count-before-end.ensures.value))

pub loop-before-preserved : goal.loop-before-preserved
loop-before-preserved g c =
    let old = c.args.disks.now.items in
    let mid = c.loop-before.disks.items in
    let was = c.loop-before.invariant in
    let pair = c.index_mut-pair.result.now in
    let new = c.make_one.new.pair in
    let made = c.in_ok-make_one.ensures in
    let at : IsNumbered mid (c.from.result + 1) pair =
    next_at (was.faults.count ∙ c.requires.pairs) c.loop-before-test.true c.count-before-end.ensures.value
    c.count-before-end.ensures.valid.at_most c.from.ensures c.index_mut-pair.ensures.value in
    let within : c.from.result < c.args.members =
    omega (arith, c.from.ensures, c.loop-before-test.true, c.count-before-end.ensures.value) in
    record {
      made = λ tells.
          rw c.from.ensures
          (made_more g.K.Keep.kept g.D.Disk.seen _ old mid c.loop-before.before new (was.made tells) (made.made tells));
      faults = steady_set g.D.Disk.faults old mid c.from.result pair new was.faults at made.asked.steady;
      armings = steady_set g.D.Disk.armings old mid c.from.result pair new was.armings at made.asked.armings;
      others = others_set c.args.members old mid c.from.result new was.others within;
      synced = λ tells at_first.
          synced_set g.D.Disk.seen g.D.Disk.may_leave mid c.from.result c.args.members pair new
          (was.synced tells at_first) at (made.synced tells) within;
      unarmed = λ fused none.
          let before = was.unarmed fused none in
          unarmed_set g.D.Disk.fuse mid c.from.result new before
          ((made.asked.unfailing fused).unarmed (before.each (c.from.result + 1) pair at));
      regular = λ tells.
          rw c.from.ensures
          (regular_more g.K.Keep.Regular g.D.Disk.seen mid c.loop-before.before new (was.regular tells)
          (made.regular tells));
    }

pub returns-in_err-make_one : goal.returns-in_err-make_one
returns-in_err-make_one g c =
    let given = err_from_is_err_and c.from_residual.result c.from_residual.ensures.1 in
    let fault = c.in_err-make_one.field-0.0 in
    let old = c.args.disks.now.items in
    let mid = c.loop-before.disks.items in
    let was = c.loop-before.invariant in
    let pair = c.index_mut-pair.result.now in
    let made = c.in_err-make_one.ensures in
    let at : IsNumbered c.loop-before.disks.items (c.from.result + 1) c.index_mut-pair.result.now =
    next_at (c.loop-before.invariant.faults.count ∙ c.requires.pairs) c.loop-before-test.true c.count-before-end.ensures.value
    c.count-before-end.ensures.valid.at_most c.from.ensures c.index_mut-pair.ensures.value in
    let within : c.from.result < c.args.members =
    omega (arith, c.from.ensures, c.loop-before-test.true, c.count-before-end.ensures.value) in
    rw (given.1, given.2)
    (record {
      made = λ tells. tt;
      member = λ r is.
          let named = (made.asked.failed r is).0 in
          omega (arith, named, c.loop-before-test.true, c.count-before-end.ensures.value);
      refused = made.refused;
      partly = λ tells at_first.
          let volume : Volume = record { members = c.args.members; ids = c.args.ids; bytes = c.args.bytes } in
          let all = was.synced tells at_first in
          let holds = made.partly tells (all.each (c.from.result + 1) pair at (omega (arith, within))) in
          let here = subst (λ n. IsNumbered mid (n + 1) pair) c.from.ensures at in
          rw c.from.ensures
          (made_in_part g.K.Keep.kept g.D.Disk.seen volume old g.D.Disk mid c.loop-before.before c.make_one.new.pair
          (was.made tells) was.faults.count fault made.refused (λ r is. (made.asked.failed r is).0)
          (one_in_part g.K.Keep.kept g.D.Disk.seen volume old g.D.Disk mid c.loop-before.before c.make_one.new.pair
          (was.made tells) was.faults.count all holds)
          (λ is. some_made g.K.Keep.kept g.D.Disk.seen volume old g.D.Disk mid c.loop-before.before c.make_one.new.pair
          (was.made tells) was.faults.count pair here (rests_before (made.wanted is)) all));
      others = others_set c.args.members old mid c.from.result c.make_one.new.pair was.others within;
      synced = λ tells at_first. tt;
      regular = λ tells. tt;
      asked = disks_set old mid was.faults was.armings was.unarmed c.from.result pair c.make_one.new.pair at
          (subst (λ n. PairAsked g.D.Disk (n + 1) (Err fault) pair c.make_one.new.pair) (sym c.from.ensures) made.asked);
    })

pub returns : goal.returns
returns g c =
    let was = c.loop-before.invariant in
    let all : c.args.members ≤ c.loop-before.before =
    omega (arith, c.loop-before-test.false, c.count-before-end.ensures.value) in
    record {
      made = λ tells.
          made_all g.K.Keep.kept g.D.Disk.seen
          (record { members = c.args.members; ids = c.args.ids; bytes = c.args.bytes }) c.args.disks.now.items
          c.loop-before.disks.items c.loop-before.before (was.made tells) all;
      member = λ r is. absurd (cc);
      refused = tt;
      partly = λ tells at_first. tt;
      others = was.others;
      synced = was.synced;
      regular = λ tells. record {
        each = λ r pair at most. (was.regular tells).each r pair at (omega (arith, most, all));
      };
      asked = disks_steady _ c.args.disks.now.items c.loop-before.disks.items was.faults was.armings was.unarmed
          (λ r is. absurd (cc));
    }
