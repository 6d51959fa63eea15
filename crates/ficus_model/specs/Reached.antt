-- Which objects are reached along live entries.
use Rattle.std.specs.Prelude.{◌≡◌, ℕ, List}
use Rattle.ficus_ids.specs.declared.id.Id.{Id}
use Rattle.ficus_ids.specs.declared.id.TheConstants.{ROOT}
use Rattle.ficus_model.specs.declared.event.Event.{Event}
use Rattle.ficus_model.specs.Live.{IsBound}

-- the least set that holds the base and each object to which an object of the set leads
pub data IsReached (leads : Id → Id → Type 0) (base : Id → Type 0) : Id → Type 0 where
  Base : {object : Id} → base object → IsReached leads base object
  Through : {dir object : Id} → IsReached leads base dir → leads dir object → IsReached leads base object

-- a live entry of the directory names the object
pub record Leads (H : List Event) (U : ℕ → Type 0) (dir object : Id) : Type 0 where
  pub name : List ℕ
  pub bound : IsBound H U dir name object

-- reached from this object
abbrev pub IsReachedFrom : List Event → (ℕ → Type 0) → Id → Id → Type 0
IsReachedFrom H U start object = IsReached (Leads H U) (λ base. base ≡ start) object

-- reached from the root
abbrev pub IsInTree : List Event → (ℕ → Type 0) → Id → Type 0
IsInTree H U object = IsReachedFrom H U ROOT object
