use Rattle.std.proofs.Common.{◌≡◌, length, take}
use Rattle.ficus_persistent.specs.Shape.{joined}
use Rattle.ficus_persistent.proofs.below.count_of.Given as goal

abbrev pub invariant-loop-tree : goal.invariant-loop-tree
invariant-loop-tree g l = l.count ≡ length (joined (take l.tree-index l.row))
