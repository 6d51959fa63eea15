use Rattle.std.proofs.Common.{◌≡◌, ◌-◌, ◌<◌, ◌≤◌, length, take}
use Rattle.ficus_persistent.specs.Shape.{joined, AreBelow}
use Rattle.ficus_persistent.proofs.tree.Tree.row_of.Given as goal

abbrev pub invariant-loop-from : goal.invariant-loop-from
invariant-loop-from g l = record {
  within : l.from ≤ length l.items;
  some : 0 < l.from → 0 < length l.row.items;
  items : joined l.row.items ≡ take l.from l.items;
  level : AreBelow 2 l.row.items;
}

abbrev pub decreases-loop-from : goal.decreases-loop-from
decreases-loop-from g l = length l.items - l.from
