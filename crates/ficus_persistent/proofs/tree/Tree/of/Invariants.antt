use Rattle.std.proofs.Common.{◌≡◌, ℕ, ◌<◌, length}
use Rattle.ficus_persistent.specs.Shape.{joined, AreBelow}
use Rattle.ficus_persistent.proofs.tree.Tree.of.Given as goal

abbrev pub invariant-loop-alloc : goal.invariant-loop-alloc
invariant-loop-alloc g l = record {
  some : 0 < length l.row.items;
  items : joined l.row.items ≡ l.items;
  level : (height : ℕ) × AreBelow height l.row.items;
}

abbrev pub decreases-loop-alloc : goal.decreases-loop-alloc
decreases-loop-alloc g l = length l.row.items
