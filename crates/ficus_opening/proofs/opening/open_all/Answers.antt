use Rattle.std.proofs.Common.{◌≡◌, ◌+◌, length, subst, sym, ap, ◌∙◌, arith}
use Rattle.std.proofs.lemmas.Result.{err_from_is_err_and}
use Rattle.std.specs.Prelude.{List}
use Rattle.ficus_ids.specs.Members.{IsCount}
use Rattle.ficus_opening.specs.declared.member.Member.{Member as MemberValue}
use Rattle.ficus_opening.specs.declared.fault.WorldFault.TheVariants.{Memory}
use Rattle.ficus_runs.proofs.Numbers.{number_exists, number_once}
use Rattle.ficus_opening.proofs.Openings.{held_of, more_next, next_fails, one_next, opened_none}
use Rattle.ficus_opening.proofs.Others.{others_then, others_within}
use Rattle.ficus_opening.proofs.Steadies.{number_at, steady_trans}
use Rattle.ficus_opening.proofs.Rests.{all_rest_then}
use Rattle.ficus_opening.proofs.Asking.{looks_behind, looks_err, looks_none, looks_steady, never_store}
use Rattle.ficus_opening.proofs.opening.open_all.Goals as goal

pub loop-before-init : goal.loop-before-init
loop-before-init g c = record {
  opened = c.in_ok-open_next.ensures.opened;
  counted =
      c.in_ok-open_next.ensures.members.count ∙ ap (λ (l : List MemberValue). length l + 1) c.in_ok-opened.ensures.members;
  says = λ first one.
      let counted =
      c.in_ok-open_next.ensures.members.count
      ∙ ap (λ (l : List MemberValue). length l + 1) c.in_ok-opened.ensures.members in
      let here =
      number_at c.open_next.new.opened.members.items 0 c.index.result.now (omega (arith, counted)) c.index.ensures in
      ap (λ (m : MemberValue). m.replica.saved.members) (number_once one here) ∙ sym c.count-count.ensures.value;
  same = c.open_next.ensures.looked.same;
  faults = c.in_ok-open_next.ensures.looked.asked.steady;
  armings = c.open_next.ensures.looked.asked.armings;
  unarmed = λ fused. (c.open_next.ensures.looked.asked.unfailing fused).unarmed;
  rests = c.open_next.ensures.looked.rests;
  others = c.open_next.ensures.others;
}

pub open_next-requires-in-loop-before-clause-next :
    goal.open_next-requires-in-loop-before-clause-next
open_next-requires-in-loop-before-clause-next g c = omega (arith, c.loop-before.invariant.counted)

pub open_next-requires-in-loop-before-clause-before :
    goal.open_next-requires-in-loop-before-clause-before
open_next-requires-in-loop-before-clause-before g c = c.loop-before.invariant.opened

pub open_next-requires-clause-before : goal.open_next-requires-clause-before
open_next-requires-clause-before g c =
    opened_none g.K.Keep g.D.Disk c.in_ok-opened.opened c.args.disks.now.items c.in_ok-opened.ensures.members
    c.in_ok-opened.ensures.stables

pub loop-before-preserved : goal.loop-before-preserved
loop-before-preserved g c =
    let was = c.loop-before.invariant in
    let next = c.in_ok-open_next-2.ensures in
    let looked = next.looked in
    let old = c.args.disks.now.items in
    let mid = c.loop-before.disks.items in
    let new = c.open_next-in-loop-before.new.disks.items in
    record {
      opened = next.opened;
      counted = omega (arith, next.members.count, was.counted);
      says = λ first one.
          let there =
          number_exists c.loop-before.opened.members.items 1
          (record { at_least = omega arith; at_most = omega (arith, was.counted, c.loop-before.auto.before) }) in
          ap (λ (m : MemberValue). m.replica.saved.members) (number_once one (next.members.stays 1 there.0 there.1))
          ∙ was.says there.0 there.1;
      same = λ told. steady_trans g.D.Disk.seen old mid new (was.same told) (looked.same told);
      faults = steady_trans g.D.Disk.faults old mid new was.faults looked.asked.steady;
      armings = steady_trans g.D.Disk.armings old mid new was.armings looked.asked.armings;
      unarmed = λ fused none. (looked.asked.unfailing fused).unarmed (was.unarmed fused none);
      rests = all_rest_then g.D.Disk g.met.D.Disk.left_earlier old mid new was.rests looked.rests;
      others =
          others_then (c.loop-before.before + 1) old mid new
          (others_within c.loop-before.before (c.loop-before.before + 1) old mid (omega arith) was.others) next.others;
    }

pub returns-in_err-opened : goal.returns-in_err-opened
returns-in_err-opened g c =
    let given = err_from_is_err_and c.from_residual.result c.from_residual.ensures.1 in
    rw (given.1, given.2)
    (record {
      opened = tt;
      counted = tt;
      count = tt;
      image = λ told r is. absurd (cc);
      never = λ r is. absurd (cc);
      others = tt;
      member = λ told r is. absurd (cc);
      earlier = λ told q r is. absurd (cc);
      looked = looks_none c.args.disks.now.items (never_store Memory tt);
    })

pub returns-in_err-open_next : goal.returns-in_err-open_next
returns-in_err-open_next g c =
    let given =
    err_from_is_err_and c.from_residual-in_err-open_next.result c.from_residual-in_err-open_next.ensures.1 in
    let fault = c.in_err-open_next.field-0.0 in
    let fails = c.in_err-open_next.ensures in
    rw (given.1, given.2)
    (next_fails fault (λ told. one_next g.K.Keep.kept g.D.Disk.seen c.args.disks.now.items) fails
    (looks_err fault fails.looked))

pub returns-in_err-open_next-2 : goal.returns-in_err-open_next-2
returns-in_err-open_next-2 g c =
    let given =
    err_from_is_err_and c.from_residual-in_err-open_next-2.result c.from_residual-in_err-open_next-2.ensures.1 in
    let fault = c.in_err-open_next-2.field-0.0 in
    let fails = c.in_err-open_next-2.ensures in
    let was = c.loop-before.invariant in
    let old = c.args.disks.now.items in
    let mid = c.loop-before.disks.items in
    let members = c.loop-before.opened.members.items in
    rw (given.1, given.2)
    (next_fails fault
    (λ told.
    more_next g.K.Keep.kept g.D.Disk.seen c.one_saved.ensures old mid members c.loop-before.before c.count-count.result
    (was.same told) was.opened.opened
    (held_of g.K.Keep g.D.Disk c.loop-before.opened mid was.opened told) was.counted c.loop-before.auto.before c.loop-before-test.true
    (omega (
      arith,
      c.loop-before-test.true,
      was.faults.count,
      c.requires.pairs,
      c.count-count.ensures.value,
      c.count-count.ensures.valid.at_most,
    ))
    was.says)
    fails
    (looks_behind g.met.D.Disk.left_earlier old mid c.open_next-in-loop-before.new.disks.items was.faults was.armings
    was.unarmed was.same was.rests (looks_err fault fails.looked)))

pub returns : goal.returns
returns g c =
    let was = c.loop-before.invariant in
    let members = c.loop-before.opened.members.items in
    let all : c.index.result.now.replica.saved.members ≡ length members =
    omega (
      arith,
      was.counted,
      c.loop-before-test.false,
      c.loop-before.auto.before-end,
      c.count-count.ensures.value,
      c.count-count.ensures.valid.at_least,
    ) in
    record {
      opened = was.opened;
      counted = λ first one. was.says first one ∙ c.count-count.ensures.value ∙ all;
      count = subst IsCount all c.count-count.ensures.valid;
      image = λ told r is. absurd (cc);
      never = λ r is. absurd (cc);
      others = others_within c.loop-before.before (length members) c.args.disks.now.items c.loop-before.disks.items
          (omega (arith, was.counted)) was.others;
      member = λ told r is. absurd (cc);
      earlier = λ told q r is. absurd (cc);
      looked = looks_steady _ c.args.disks.now.items c.loop-before.disks.items was.faults was.armings was.unarmed
          was.same was.rests (λ r is. absurd (cc));
    }
