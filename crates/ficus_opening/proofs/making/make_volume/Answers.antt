use Rattle.std.proofs.Common.{subst, refl}
use Rattle.std.specs.Prelude.{IfErr}
use Rattle.std.proofs.lemmas.Result.{IfErr-weaker, err_from_is_err_and}
use Rattle.ficus_opening.specs.Opening.{IsFoundFault, IsStoreFault}
use Rattle.ficus_opening.specs.declared.fault.WorldFault.TheVariants.{Image}
use Rattle.ficus_opening.proofs.Asking.{disks_behind, on_ok}
use Rattle.ficus_opening.proofs.Faults.{same_err}
use Rattle.ficus_opening.proofs.Made.{empty_same, found_comes, found_in_part, none_occupied, part_behind}
use Rattle.ficus_opening.proofs.Others.{others_then}
use Rattle.ficus_opening.proofs.making.make_volume.Goals as goal

pub make_all-requires-clause-empty : goal.make_all-requires-clause-empty
make_all-requires-clause-empty g c = λ tells.
    empty_same g.D.Disk.seen c.args.disks.now.items c.look_for_empty.new.disks.items c.args.members
    (c.look_for_empty.ensures.looked.same tells) (c.in_ok-look_for_empty.ensures.empty tells)

pub returns-in_err-look_for_empty : goal.returns-in_err-look_for_empty
returns-in_err-look_for_empty g c =
    let given = err_from_is_err_and c.from_residual.result c.from_residual.ensures.1 in
    let fault = c.in_err-look_for_empty.field-0.0 in
    let found = c.in_err-look_for_empty.ensures in
    let looked = found.looked in
    rw (given.1, given.2)
    (record {
      made = λ tells. tt;
      empty = λ tells. tt;
      occupied = found.occupied;
      held = λ tells r within first. looked.same tells;
      rests = λ tells r within first. looked.rests;
      partly = λ tells empty at_first.
          found_in_part g.K.Keep.kept g.D.Disk
          (record { members = c.args.members; ids = c.args.ids; bytes = c.args.bytes }) c.args.disks.now.items
          c.look_for_empty.new.disks.items fault found.refused looked.rests empty (found.occupied tells);
      others = c.look_for_empty.ensures.others;
      spared = looked.asked.spared;
      comes = λ tells r first within.
          found_comes g.D.Disk.seen c.args.disks.now.items r _ fault refl found.refused
          (λ q is. (found.occupied tells q is).0) first;
      failed = looked.asked.failed;
      member = found.member;
      never = λ r is. subst IsFoundFault (same_err fault (Image r) is) found.refused;
      synced = λ tells at_first. tt;
      steady = tt;
      armings = looked.asked.armings;
      pairs = looked.asked.armings.count;
      unfailing = looked.asked.unfailing;
      regular = λ tells. tt;
    })

pub returns : goal.returns
returns g c =
    let old = c.args.disks.now.items in
    let found = c.in_ok-look_for_empty.ensures in
    let first = c.look_for_empty.ensures.looked.asked in
    let made = c.make_all.ensures in
    let asked =
    disks_behind old c.look_for_empty.new.disks.items found.looked.asked.steady first.armings
    (λ fused. (first.unfailing fused).unarmed) made.asked in
    record {
      made = made.made;
      empty = λ tells. on_ok c.make_all.result (found.empty tells);
      occupied = λ tells r is. absurd (subst (λ told. IfErr told IsStoreFault) is made.refused);
      held = λ tells r within first.
          absurd (none_occupied g.D.Disk.seen old c.args.members r (found.empty tells) first within);
      rests = λ tells r within first.
          absurd (none_occupied g.D.Disk.seen old c.args.members r (found.empty tells) first within);
      partly = λ tells empty at_first.
          IfErr-weaker c.make_all.result _ _
          (part_behind g.K.Keep.kept g.D.Disk
          (record { members = c.args.members; ids = c.args.ids; bytes = c.args.bytes }) g.met.D.Disk.left_earlier old
          c.look_for_empty.new.disks.items c.make_all.new.disks.items found.looked.rests)
          (made.partly tells (found.synced tells at_first));
      others =
          others_then c.args.members old c.look_for_empty.new.disks.items c.make_all.new.disks.items
          c.look_for_empty.ensures.others made.others;
      spared = asked.spared;
      comes = λ tells r first within.
          absurd (none_occupied g.D.Disk.seen old c.args.members r (found.empty tells) first within);
      failed = asked.failed;
      member = made.member;
      never = λ r is. absurd (subst (λ told. IfErr told IsStoreFault) is made.refused);
      synced = λ tells at_first. made.synced tells (found.synced tells at_first);
      steady = asked.steady;
      armings = asked.armings;
      pairs = asked.armings.count;
      unfailing = asked.unfailing;
      regular = made.regular;
    }
