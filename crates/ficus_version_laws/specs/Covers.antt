-- What covers a version, and which versions of a list are beyond a cover.
use Rattle.std.specs.Prelude.{◌≢◌, ℕ, List, Contains}
use Rattle.ficus_ids.specs.declared.id.Id.{Id}
use Rattle.ficus_model.specs.declared.event.Event.{Event}
use Rattle.ficus_model.specs.Known.{HasInPast}
use Rattle.ficus_model.specs.Versions.{IsCovering, IsShown, IsUncovered}
use Rattle.ficus_version_laws.specs.Compared.{IsAtMost}
use Rattle.ficus_version_laws.specs.Listed.{Item}

-- the position lies in the past of a known Remove or Discard of the object
pub record HasCover (H : List Event) (U : ℕ → Type 0) (object : Id) (position : ℕ) : Type 0 where
  pub cover : ℕ
  pub covering : IsCovering H object cover
  pub known : U cover
  pub past : HasInPast H cover position

-- a shown version of the file lies in the past of no known Remove or Discard of it
pub record ShowsUncovered (H : List Event) (U : ℕ → Type 0) (file : Id) : Type 0 where
  pub position : ℕ
  pub shown : IsShown H U file position
  pub uncovered : IsUncovered H U file position

-- the vector of some version of the list isn't at most the cover
pub record HasBeyond (members : ℕ) (versions : List Item) (cover : ℕ → ℕ) : Type 0 where
  pub item : Item
  pub inside : Contains versions item
  pub beyond : IsAtMost members item.vector cover → ⊥

-- two versions of the list differ in bytes
pub record HasTwoTexts (versions : List Item) : Type 0 where
  pub one : Item
  pub other : Item
  pub inside : Contains versions one
  pub inside_too : Contains versions other
  pub differ : one.bytes ≢ other.bytes
