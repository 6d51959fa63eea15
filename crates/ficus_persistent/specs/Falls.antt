-- Each tree below a fork is lower than the fork.
use Rattle.std.specs.Prelude.{ℕ, ◌+◌, ◌≤◌, List, [], ◌∷◌}
use Rattle.std.proofs.Common.{arith}
use denote.Param.Weighed.{most}
use Rattle.ficus_persistent.specs.declared.item.Spelled.{Ghosts}
use Rattle.ficus_persistent.specs.declared.tree.Node.{Node}
use Rattle.ficus_persistent.specs.declared.tree.Node.TheVariants.{Empty, Leaf, Fork}
use Rattle.ficus_persistent.specs.declared.tree.Tree.TheDeep.{deep-Node}
use Rattle.ficus_persistent.specs.Node.{IsSound}
use Rattle.ficus_persistent.specs.Shape.{Shape, AreBelow}

most_lower : {T : Type 0} (height : ℕ) (trees : List (Shape T)) → AreBelow height trees →
    most (λ tree. tree.height + 1) trees ≤ height
most_lower height [] level = omega arith
most_lower height (tree ∷ trees) level = omega (arith, most_lower height trees level.1, level.0.above)

-- no tree below is higher than that
pub depth_le_height : {T : Type 0} (ghosts : Ghosts T) (height : ℕ) (n : Node T) → IsSound height n →
    deep-Node T ghosts n ≤ height
depth_le_height ghosts height Empty sound = omega arith
depth_le_height ghosts height (Leaf leaf) sound = omega arith
depth_le_height ghosts height (Fork below) sound = omega (arith, most_lower height below.value.items sound.level)
