-- Where identifiers stand in an index.
use Rattle.std.specs.Prelude.{◌≡◌, ℕ, ◌+◌, ◌*◌, ◌^◌, ◌≤◌, ◌<◌, List, ◌∷◌, Bool, MatchBool, length, get_or, map, Contains}
use Rattle.std.specs.List.{HoldsAt, filter}
use Rattle.std.specs.List.Sorted.{IsNonDecreasingBy, IsPermutation}
use Rattle.ficus_ids.specs.declared.id.Id.{Id}
use Rattle.ficus_index.specs.declared.place.Note.{Note}
use Rattle.ficus_index.specs.declared.place.Place.{Place}

-- the place as a number: by replica, then by number, then by rank
abbrev pub order_of : Place → ℕ
order_of place = (place.dir.replica * 2 ^ 32 + place.dir.number) * 2 ^ 64 + place.rank

-- the notes stand in the order of places
abbrev pub AreOrdered : List Note → Type 0
AreOrdered notes = IsNonDecreasingBy (λ note. order_of note.place) notes

-- the note at this position has the identifier
abbrev pub IsNoteAt : List Note → Id → ℕ → Type 0
IsNoteAt notes id position = (position < length notes) × HoldsAt (λ note. note.id ≡ id) notes position

-- the positions from start up to end are those of all notes from one place up to another
pub record IsSpan (notes : List Note) (from to : Place) (start end : ℕ) : Type 0 where
  pub within : end ≤ length notes
  pub all : (k : ℕ) (d : Note) → k < length notes → order_of from ≤ order_of (get_or notes k d).place →
      order_of (get_or notes k d).place < order_of to → (start ≤ k) × (k < end)

-- a note with the identifier stands at a position from start up to end
pub record IsNotedWithin (notes : List Note) (start end : ℕ) (id : Id) : Type 0 where
  pub position : ℕ
  pub from : start ≤ position
  pub to : position < end
  pub at : IsNoteAt notes id position

-- the fewer are the notes without one that equals this one, or all of them where none does
pub record TakesOne (notes : List Note) (note : Note) (fewer : List Note) : Type 0 where
  pub present : Contains notes note → IsPermutation notes (note ∷ fewer)
  pub absent : (Contains notes note → ⊥) → fewer ≡ notes

-- the notes are those of the rows that pass the test, each as often
abbrev pub AreNotesOf : {X : Type 0} → (X → Bool) → (X → Note) → List X → List Note → Type 0
AreNotesOf test note_of rows notes = ∥ IsPermutation (map note_of (filter test rows)) notes ∥₁

-- the more are the notes with that of the row, if the row passes the test
abbrev pub AddsRow : {X : Type 0} → (X → Bool) → (X → Note) → List Note → X → List Note → Type 0
AddsRow test note_of notes row more = MatchBool (test row) (IsPermutation (note_of row ∷ notes) more) (more ≡ notes)

-- the fewer are the notes without one of the row, if the row passes the test
abbrev pub TakesRow : {X : Type 0} → (X → Bool) → (X → Note) → List Note → X → List Note → Type 0
TakesRow test note_of notes row fewer = MatchBool (test row) (TakesOne notes (note_of row) fewer) (fewer ≡ notes)
