use Rattle.std.proofs.Common.{◌≡◌, ◌+◌, ◌<◌, Err, subst, sym, ◌∙◌, arith}
use Rattle.std.proofs.lemmas.Result.{err_from_is_err_and}
use Rattle.ficus_runs.specs.Numbered.{IsNumbered}
use Rattle.ficus_opening.specs.Opening.{IsFirstOccupied, IsFoundFault, PairAsked}
use Rattle.ficus_opening.specs.declared.fault.WorldFault.TheVariants.{Store}
use Rattle.ficus_opening.proofs.Faults.{same_err, same_occupied, same_store}
use Rattle.ficus_opening.proofs.Made.{FoundSo, empty_none, found_more}
use Rattle.ficus_opening.proofs.Steadies.{next_at, steady_none, steady_set, synced_set}
use Rattle.ficus_opening.proofs.Unarmed.{unarmed_set}
use Rattle.ficus_opening.proofs.Rests.{all_rest_none, all_rest_one, all_rest_then}
use Rattle.ficus_opening.proofs.Others.{others_none, others_set}
use Rattle.ficus_opening.proofs.Asking.{asked_err, disks_set, looks_steady}
use Rattle.ficus_opening.proofs.making.look_for_empty.Goals as goal

pub loop-before-init : goal.loop-before-init
loop-before-init g c = record {
  found = λ tells. empty_none g.D.Disk.seen c.args.disks.now.items;
  seen = λ tells. steady_none g.D.Disk.seen c.args.disks.now.items;
  faults = steady_none g.D.Disk.faults c.args.disks.now.items;
  armings = steady_none g.D.Disk.armings c.args.disks.now.items;
  rests = all_rest_none g.D.Disk c.args.disks.now.items;
  others = others_none c.args.members c.args.disks.now.items;
  synced = λ tells at_first. at_first;
  unarmed = λ fused none. none;
}

pub loop-before-preserved : goal.loop-before-preserved
loop-before-preserved g c =
    let old = c.args.disks.now.items in
    let mid = c.loop-before.disks.items in
    let was = c.loop-before.invariant in
    let pair = c.index_mut.result.now in
    let new = c.look_at.new.pair in
    let looks = c.in_ok-is_empty.ensures in
    let looked = looks.looked in
    let at : IsNumbered mid (c.from.result + 1) pair =
    next_at (was.faults.count ∙ c.requires.pairs) c.loop-before-test.true c.count-before-end.ensures.value
    c.count-before-end.ensures.valid.at_most c.from.ensures c.index_mut.ensures.value in
    let within : c.from.result < c.args.members =
    omega (arith, c.from.ensures, c.loop-before-test.true, c.count-before-end.ensures.value) in
    record {
      found = λ tells.
          found_more g.D.Disk.seen old mid c.loop-before.before pair (was.seen tells)
          (subst (λ k. IsNumbered mid (k + 1) pair) c.from.ensures at) c.loop-before.occupied
          c.or_occupied-occupied.result c.in_ok-is_empty.is_empty (looks.empty tells)
          c.or_occupied-occupied.ensures.earlier c.or_occupied-occupied.ensures.empty
          c.or_occupied-occupied.ensures.first (was.found tells);
      seen = λ tells. steady_set g.D.Disk.seen old mid c.from.result pair new (was.seen tells) at (looked.same tells);
      faults = steady_set g.D.Disk.faults old mid c.from.result pair new was.faults at looked.asked.steady;
      armings = steady_set g.D.Disk.armings old mid c.from.result pair new was.armings at looked.asked.armings;
      rests =
          all_rest_then g.D.Disk g.met.D.Disk.left_earlier old mid _ was.rests
          (all_rest_one g.D.Disk mid c.from.result pair new (omega (arith, at.member.at_most)) c.index_mut.ensures.value
          looked.rests);
      others = others_set c.args.members old mid c.from.result new was.others within;
      synced = λ tells at_first.
          synced_set g.D.Disk.seen g.D.Disk.may_leave mid c.from.result c.args.members pair new
          (was.synced tells at_first) at (looks.synced tells) within;
      unarmed = λ fused none.
          let before = was.unarmed fused none in
          unarmed_set g.D.Disk.fuse mid c.from.result new before
          ((looked.asked.unfailing fused).unarmed (before.each (c.from.result + 1) pair at));
    }

pub returns-in_err-is_empty : goal.returns-in_err-is_empty
returns-in_err-is_empty g c =
    let given = err_from_is_err_and c.from_residual.result c.from_residual.ensures.1 in
    let fault = c.in_err-is_empty.field-0.0 in
    let old = c.args.disks.now.items in
    let mid = c.loop-before.disks.items in
    let was = c.loop-before.invariant in
    let pair = c.index_mut.result.now in
    let looked = c.in_err-is_empty.ensures.looked in
    let failed : fault ≡ Store (c.loop-before.before + 1) = c.in_err-is_empty.ensures.failed in
    let at : IsNumbered c.loop-before.disks.items (c.from.result + 1) c.index_mut.result.now =
    next_at (c.loop-before.invariant.faults.count ∙ c.requires.pairs) c.loop-before-test.true c.count-before-end.ensures.value
    c.count-before-end.ensures.valid.at_most c.from.ensures c.index_mut.ensures.value in
    rw (given.1, given.2)
    (record {
      empty = λ tells. tt;
      occupied = λ tells r is. absurd (cc);
      member = λ r is.
          let named = same_store (c.loop-before.before + 1) r (sym failed ∙ same_err fault (Store r) is) in
          omega (arith, named, c.loop-before-test.true, c.count-before-end.ensures.value);
      refused = subst IsFoundFault (sym failed) tt;
      others = others_set c.args.members old mid c.from.result c.look_at.new.pair was.others
          (omega (arith, c.from.ensures, c.loop-before-test.true, c.count-before-end.ensures.value));
      synced = λ tells at_first. tt;
      looked = record {
        asked = disks_set old mid was.faults was.armings was.unarmed c.from.result pair c.look_at.new.pair at
            (subst (λ n. PairAsked g.D.Disk (n + 1) (Err fault) pair c.look_at.new.pair) (sym c.from.ensures)
            (asked_err fault looked.asked));
        same = λ tells.
            steady_set g.D.Disk.seen old mid c.from.result pair c.look_at.new.pair (was.seen tells) at (looked.same tells);
        rests =
            all_rest_then g.D.Disk g.met.D.Disk.left_earlier old mid _ was.rests
            (all_rest_one g.D.Disk mid c.from.result pair c.look_at.new.pair (omega (arith, at.member.at_most))
            c.index_mut.ensures.value looked.rests);
      };
    })

pub returns-in-Some : goal.returns-in-Some
returns-in-Some g c =
    let was = c.loop-before.invariant in
    record {
      empty = λ tells. tt;
      occupied = λ tells r is.
          let found = subst (FoundSo g.D.Disk.seen c.args.disks.now.items c.loop-before.before) c.in-Some.is
          (was.found tells) in
          let number = same_occupied c.in-Some.number r (same_err {T = Unit {0}} _ _ is) in
          let within = found.1 in (
            subst (IsFirstOccupied g.D.Disk.seen c.args.disks.now.items) number found.0,
            omega (arith, number, within, c.loop-before.auto.before-end, c.count-before-end.ensures.value),
          );
      member = λ r is. absurd (cc);
      refused = tt;
      others = was.others;
      synced = λ tells at_first. tt;
      looked = looks_steady _ c.args.disks.now.items c.loop-before.disks.items was.faults was.armings was.unarmed
          was.seen was.rests (λ r is. absurd (cc));
    }

pub returns-in-None : goal.returns-in-None
returns-in-None g c =
    let was = c.loop-before.invariant in
    record {
      empty = λ tells.
          let found = subst (FoundSo g.D.Disk.seen c.args.disks.now.items c.loop-before.before) c.in-None.is
          (was.found tells) in
          record {
            each = λ r pair at most.
                found.each r pair at (omega (arith, most, c.loop-before-test.false, c.count-before-end.ensures.value));
          };
      occupied = λ tells r is. absurd (cc);
      member = λ r is. absurd (cc);
      refused = tt;
      others = was.others;
      synced = was.synced;
      looked = looks_steady _ c.args.disks.now.items c.loop-before.disks.items was.faults was.armings was.unarmed
          was.seen was.rests (λ r is. absurd (cc));
    }
