-- What a node stands for, and what holds of it.
use Rattle.std.specs.Prelude.{◌≡◌, ◌≤◌, ℕ, List, [], ◌∷◌, length}
use Rattle.ficus_persistent.specs.declared.tree.Grown.{Grown}
use Rattle.ficus_persistent.specs.declared.tree.Grown.TheVariants.{One, Two}
use Rattle.ficus_persistent.specs.declared.tree.Node.{Node}
use Rattle.ficus_persistent.specs.declared.tree.Node.TheVariants.{Empty, Leaf, Fork}
use Rattle.ficus_persistent.specs.Shape.{Shape, joined, AreBelow}

-- the items in order
abbrev pub items_of : {T : Type 0} → Node T → List T
items_of Empty = []
items_of (Leaf leaf) = leaf.value
items_of (Fork below) = joined below.value.items

-- a leaf has an item, and no more than fit
pub record IsLeaf {T : Type 0} (height : ℕ) (items : List T) : Type 0 where
  pub high : height ≡ 1
  pub some : 1 ≤ length items
  pub few : length items ≤ 32

-- below a fork stand two trees, and no more than fit, each one lower
pub record IsFork {T : Type 0} (height : ℕ) (below : List (Shape T)) : Type 0 where
  pub several : 2 ≤ length below
  pub few : length below ≤ 32
  pub level : AreBelow height below

-- what a node of this height holds is right
abbrev pub IsSound : {T : Type 0} → ℕ → Node T → Type 0
IsSound height Empty = height ≡ 0
IsSound height (Leaf leaf) = IsLeaf height leaf.value
IsSound height (Fork below) = IsFork height below.value.items

-- one tree, or two side by side
abbrev pub trees : {X : Type 0} → Grown X → List X
trees (One tree) = tree ∷ []
trees (Two first second) = first ∷ second ∷ []
