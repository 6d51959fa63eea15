use Rattle.ficus_opening.specs.Fuses.{AreRegular, AreUnarmed}
use Rattle.ficus_opening.specs.Rests.{OthersStay}
use Rattle.ficus_opening.specs.Opening.{AreSynced, Steady}
use Rattle.ficus_opening.proofs.Made.{MadeSo}
use Rattle.ficus_opening.proofs.making.make_all.Given as goal

abbrev pub invariant-loop-before : goal.invariant-loop-before
invariant-loop-before g l = record {
  made : g.D.Disk.tells → MadeSo g.K.Keep.kept g.D.Disk.seen
      (record { members = l.members; ids = l.ids; bytes = l.bytes }) l.fn.disks.items l.disks.items l.before;
  faults : Steady g.D.Disk.faults l.fn.disks.items l.disks.items;
  armings : Steady g.D.Disk.armings l.fn.disks.items l.disks.items;
  others : OthersStay l.members l.fn.disks.items l.disks.items;
  synced : g.D.Disk.tells → AreSynced g.D.Disk.seen g.D.Disk.may_leave l.fn.disks.items l.members
      → AreSynced g.D.Disk.seen g.D.Disk.may_leave l.disks.items l.members;
  unarmed : g.D.Disk.tells_fuse → AreUnarmed g.D.Disk.fuse l.fn.disks.items → AreUnarmed g.D.Disk.fuse l.disks.items;
  regular : g.D.Disk.tells → AreRegular g.K.Keep.Regular g.D.Disk.seen l.disks.items l.before;
}
