use Rattle.std.proofs.Common.{◌≡◌, ◌≢◌, ◌+◌, ◌-◌, ◌<◌, ◌≤◌, length, take}
use Rattle.ficus_persistent.specs.Shape.{joined, AreBelow}
use Rattle.ficus_persistent.proofs.tree.Tree.row_above.Given as goal

abbrev pub invariant-loop-from : goal.invariant-loop-from
invariant-loop-from g l = record {
  within : l.from ≤ length l.row;
  rest : length l.row - l.from ≢ 1;
  some : 0 < l.from → 0 < length l.above.items;
  shorter : length l.above.items + length l.above.items ≤ l.from;
  below : AreBelow l.height l.row;
  items : joined l.above.items ≡ joined (take l.from l.row);
  level : AreBelow (l.height + 1) l.above.items;
}

abbrev pub decreases-loop-from : goal.decreases-loop-from
decreases-loop-from g l = length l.row - l.from
