use Rattle.std.proofs.Common.{take}
use Rattle.ficus_orphan.specs.Orphan.{AreOrphans}
use Rattle.ficus_orphan.proofs.orphan.nameless.Given as goal

abbrev pub invariant-loop-index : goal.invariant-loop-index
invariant-loop-index l = AreOrphans l.entries (take l.index l.files) l.orphans.items
