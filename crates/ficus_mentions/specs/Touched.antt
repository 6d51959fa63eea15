-- Which objects entries touch.
use Rattle.std.specs.Prelude.{◌≡◌, ◌↔◌, ℕ, Bool, true, List, [], ◌∷◌, length, slice_get, Some, Contains}
use Rattle.std.specs.List.{flat_map}
use Rattle.ficus_ids.specs.declared.id.Id.{Id}
use Rattle.ficus_entry.specs.declared.entry.Entry.{Entry}

-- the objects that the entries name, and the directories in which they lie
abbrev pub touched_by : List Entry → List Id
touched_by entries = flat_map (λ (entry : Entry). entry.target ∷ entry.dir ∷ []) entries

-- the identifier is one of these, and the mark at its place is set
pub record HasMark (ids : List Id) (marks : List Bool) (id : Id) : Type 0 where
  pub index : ℕ
  pub at : slice_get ids index ≡ Some id
  pub mark : slice_get marks index ≡ Some true

-- a mark for each of the identifiers, which is set where it is one of those others
pub record AreMarked (others ids : List Id) (marks : List Bool) : Type 0 where
  pub lengths : length marks ≡ length ids
  pub each : (id : Id) → HasMark ids marks id ↔ (Contains ids id × Contains others id)
