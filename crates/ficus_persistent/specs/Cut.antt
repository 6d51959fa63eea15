-- Where a list is cut in two.
use Rattle.std.specs.Prelude.{◌≡◌, ℕ, Bool, true, false, List}
use Rattle.std.specs.List.Sorted.{IsPartitionPoint}

-- the items below the index pass the test, and those from it on fail it
abbrev pub IsCutAt : {X : Type 0} → (X → Bool) → List X → ℕ → Type 0
IsCutAt test items index = IsPartitionPoint (λ item. test item ≡ true) (λ item. test item ≡ false) items index
