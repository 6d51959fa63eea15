-- How far a walk along two rising lists has come.
use Rattle.std.specs.Prelude.{◌≡◌, ℕ, ◌≤◌, ◌<◌, List, length, take, get_or}
use Rattle.std.specs.declared.cmp.Ordering.TheVariants.{Less}
use Rattle.ficus_ids.specs.declared.id.Id.{Id}
use Rattle.ficus_ids.specs.Id.{id_cmp}
use Rattle.ficus_ids.specs.Rising.{IsRisingBy}
use Rattle.ficus_table.specs.SideBySide.{Sides}

-- what was passed of the one list is below what is left of the other
abbrev pub IsBelow : {S : Type 0} → (S → Id) → List S → ℕ → List S → ℕ → Type 0
IsBelow id_of xs i ys j = (k l : ℕ) (d : _) → k < i → j ≤ l → l < length ys →
    id_cmp (id_of (get_or xs k d)) (id_of (get_or ys l d)) ≡ Less

-- so many of each list were passed
abbrev pub sides_at : {S : Type 0} → List S → List S → ℕ → ℕ → Sides S
sides_at mine theirs i j =
    record { mine = mine; theirs = theirs; mine_passed = take i mine; theirs_passed = take j theirs }

-- both lists rise, and what was passed of each is below what is left of the other
pub record IsWalked {S : Type 0} (id_of : S → Id) (mine theirs : List S) (i j : ℕ) : Type 0 where
  pub mine_rises : IsRisingBy id_of mine
  pub theirs_rises : IsRisingBy id_of theirs
  pub mine_within : i ≤ length mine
  pub theirs_within : j ≤ length theirs
  pub mine_below : IsBelow id_of mine i theirs j
  pub theirs_below : IsBelow id_of theirs j mine i
