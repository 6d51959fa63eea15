-- A tree as seen from outside, and how high it stands.
use Rattle.std.specs.Prelude.{◌≡◌, ℕ, ◌+◌, ◌*◌, ◌/◌, ◌^◌, ◌<◌, ◌≤◌, List, [], length}
use Rattle.std.specs.List.{flat_map, AllByRecursion}

-- a tree: its items in order, and how many nodes lie one below the other
pub record Shape (T : Type 0) : Type 0 where
  pub items : List T
  pub height : ℕ

-- the tree without items
abbrev pub nothing : {T : Type 0} → Shape T
nothing = record { items = []; height = 0 }

-- the items of trees that stand side by side
abbrev pub joined : {T : Type 0} → List (Shape T) → List T
joined trees = flat_map (λ tree. tree.items) trees

-- a tree that may stand below a node of this height: it is one lower, and has as many items as a tree of its height
-- has at the least, whose nodes have two trees below each
pub record IsBelow {T : Type 0} (height : ℕ) (tree : Shape T) : Type 0 where
  pub above : height ≡ tree.height + 1
  pub stands : 0 < tree.height
  pub filled : 2 ^ tree.height ≤ 2 * length tree.items

-- trees that may all stand below a node of this height
abbrev pub AreBelow : {T : Type 0} → ℕ → List (Shape T) → Type 0
AreBelow height trees = AllByRecursion (IsBelow height) trees

-- the second height is the first or one more
abbrev pub IsAtMostOneAbove : ℕ → ℕ → Type 0
IsAtMostOneAbove low high = (low ≤ high) × (high ≤ low + 1)

-- the height is at most twice the binary logarithm, rounded down, of one more than the count
abbrev pub IsLow : ℕ → ℕ → Type 0
IsLow count height = 2 ^ ((height + 1) / 2) ≤ count + 1
