use Rattle.std.proofs.Common.{◌≡◌, length}
use Rattle.ficus_runs.specs.Numbered.{IsNumbered}
use Rattle.ficus_opening.specs.Calls.{AreOpenedOn}
use Rattle.ficus_opening.specs.Fuses.{AreUnarmed}
use Rattle.ficus_opening.specs.Rests.{AllRest, OthersStay}
use Rattle.ficus_opening.specs.Opening.{Steady}
use Rattle.ficus_opening.specs.declared.member.Member.{Member as MemberValue}
use Rattle.ficus_opening.proofs.opening.open_all.Given as goal

abbrev pub invariant-loop-before : goal.invariant-loop-before
invariant-loop-before g l = record {
  opened : AreOpenedOn g.K.Keep g.D.Disk l.opened l.disks.items;
  counted : length l.opened.members.items ≡ l.before;
  says : (first : MemberValue) → IsNumbered l.opened.members.items 1 first → first.replica.saved.members ≡ l.count;
  same : g.D.Disk.tells → Steady g.D.Disk.seen l.fn.disks.items l.disks.items;
  faults : Steady g.D.Disk.faults l.fn.disks.items l.disks.items;
  armings : Steady g.D.Disk.armings l.fn.disks.items l.disks.items;
  rests : AllRest g.D.Disk l.fn.disks.items l.disks.items;
  others : OthersStay l.before l.fn.disks.items l.disks.items;
  unarmed : g.D.Disk.tells_fuse → AreUnarmed g.D.Disk.fuse l.fn.disks.items → AreUnarmed g.D.Disk.fuse l.disks.items;
}
