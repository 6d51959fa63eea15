-- What stays the same of a file.
use Rattle.std.specs.Prelude.{◌↔◌, ℕ, List}
use Rattle.ficus_ids.specs.declared.id.Id.{Id}
use Rattle.ficus_model.specs.declared.event.Event.{Event}
use Rattle.ficus_model.specs.Versions.{IsShown, IsInConflict}
use Rattle.ficus_model.specs.Vectors.{IsCoverOf}
use Rattle.ficus_version_laws.specs.Listed.{Item, AreShown}

-- the same of a file: the shown versions and their lists, whether it is in conflict, and the cover
pub record IsSameFile (H : List Event) (U : ℕ → Type 0) (K : List Event) (V : ℕ → Type 0) (file : Id) : Type 0 where
  pub shown : (position : ℕ) → IsShown H U file position ↔ IsShown K V file position
  pub listed : (versions : List Item) → AreShown H U file versions ↔ AreShown K V file versions
  pub conflict : IsInConflict H U file ↔ IsInConflict K V file
  pub cover : (cover : ℕ → ℕ) → IsCoverOf H U file cover ↔ IsCoverOf K V file cover
