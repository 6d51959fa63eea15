use Rattle.std.proofs.Common.{take}
use Rattle.ficus_orphan.specs.Made.{AreMadeOf}
use Rattle.ficus_entry.specs.Inside.{IsNameFor}
use Rattle.ficus_orphan.proofs.naming.targets_of.Given as goal

abbrev pub invariant-loop-index : goal.invariant-loop-index
invariant-loop-index l = AreMadeOf IsNameFor (take l.index l.entries) l.targets.items
