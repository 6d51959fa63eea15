use Rattle.std.proofs.Common.{◌≡◌, ◌++◌, map, take}
use Rattle.ficus_persistent.specs.Shape.{joined}
use Rattle.ficus_persistent.proofs.tree.Tree.+gather.Given as goal

abbrev pub invariant-loop-tree : goal.invariant-loop-tree
invariant-loop-tree g l =
    map (λ item. item.now) l.gathered.items
    ≡ map (λ item. item.now) l.initial.gathered.items ++ joined (take l.tree-index l.below)
