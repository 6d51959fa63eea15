use Rattle.std.proofs.Common.{◌≤◌, Ok}
use Rattle.ficus_opening.specs.Alone.{EntersAbsent}
use Rattle.ficus_opening.proofs.alone.enter_absent.Given as goal

abbrev pub invariant-loop-behind : goal.invariant-loop-behind
invariant-loop-behind g l = record {
  since : l.fn.before ≤ l.behind;
  within : l.behind ≤ l.to;
  entered : EntersAbsent {A = Unit {0}} g.K.Keep g.D.Disk
      (record { members = l.members; ids = l.ids; bytes = l.bytes }) l.fn.before l.behind (Ok tt)
      l.fn.opened l.opened l.fn.disks.items l.disks.items;
}
