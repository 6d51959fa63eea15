use Rattle.ficus_opening.specs.Fuses.{AreUnarmed}
use Rattle.ficus_opening.specs.Rests.{AllRest, OthersStay}
use Rattle.ficus_opening.specs.Opening.{AreSynced, Steady}
use Rattle.ficus_opening.proofs.Made.{FoundSo}
use Rattle.ficus_opening.proofs.making.look_for_empty.Given as goal

abbrev pub invariant-loop-before : goal.invariant-loop-before
invariant-loop-before g l = record {
  found : g.D.Disk.tells → FoundSo g.D.Disk.seen l.fn.disks.items l.before l.occupied;
  seen : g.D.Disk.tells → Steady g.D.Disk.seen l.fn.disks.items l.disks.items;
  faults : Steady g.D.Disk.faults l.fn.disks.items l.disks.items;
  armings : Steady g.D.Disk.armings l.fn.disks.items l.disks.items;
  rests : AllRest g.D.Disk l.fn.disks.items l.disks.items;
  others : OthersStay l.fn.members l.fn.disks.items l.disks.items;
  synced : g.D.Disk.tells → AreSynced g.D.Disk.seen g.D.Disk.may_leave l.fn.disks.items l.fn.members
      → AreSynced g.D.Disk.seen g.D.Disk.may_leave l.disks.items l.fn.members;
  unarmed : g.D.Disk.tells_fuse → AreUnarmed g.D.Disk.fuse l.fn.disks.items → AreUnarmed g.D.Disk.fuse l.disks.items;
}
