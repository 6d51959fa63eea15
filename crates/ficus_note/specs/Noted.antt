-- The note of an open ask, and how it is spelled and kept.
use Rattle.std.specs.Prelude.{◌≡◌, ◌⊎◌, ℕ, ◌<◌, ◌^◌, List, ◌∷◌, Option, Some, None}
use Rattle.std.specs.Int.{w64, to_be_bytes}
use Rattle.ficus_disk.specs.declared.pair.Pair.{Pair}
use Rattle.ficus_ids.specs.Members.{IsMember}
use Rattle.ficus_keeper.specs.Kept.{Kept, image_alone}
use Rattle.ficus_note.specs.declared.asked.Asked.{Asked}
use Rattle.ficus_two_slots.specs.Slots.{kept_in}

-- who was asked in one byte and the number in eight, the highest first; nine zeros for no ask
abbrev pub note_bytes : Option Asked → List ℕ
note_bytes None = 0 ∷ to_be_bytes w64 0
note_bytes (Some asked) = asked.to ∷ to_be_bytes w64 asked.number

-- one of at most eight members, and a number of eight bytes
pub record FitsAsked (asked : Asked) : Type 0 where
  pub to : IsMember 8 asked.to
  pub number : asked.number < 2 ^ 64

abbrev pub FitsNote : Option Asked → Type 0
FitsNote None = Unit {0}
FitsNote (Some asked) = FitsAsked asked

-- what a keeper found is this note, of this generation
abbrev pub HoldsAt : Option Kept → ℕ → Option Asked → Type 0
HoldsAt found generation noted = found ≡ Some (image_alone generation (note_bytes noted))

-- or of some generation
abbrev pub HoldsNote : Option Kept → Option Asked → Type 0
HoldsNote found noted = (generation : ℕ) × HoldsAt found generation noted

-- whatever a crash leaves of the pair, it holds one of these two notes
pub record NotesOneOf {D : Type 0} (may_leave : D → List ℕ → Type 0) (pair : Pair D) (before after : Option Asked)
    : Type 0 where
  pub each : (a b : List ℕ) → may_leave pair.a a → may_leave pair.b b
      → HoldsNote (kept_in a b) before ⊎ HoldsNote (kept_in a b) after

-- whatever a crash at a moment between these two states might have left, it holds one of these two notes
pub record NotesOneBetween {D : Type 0} (moment : D → ℕ) (left_since : D → ℕ → List ℕ → Type 0) (old new : Pair D)
    (before after : Option Asked) : Type 0 where
  pub each : (a b : List ℕ) → left_since new.a (moment old.a) a → left_since new.b (moment old.b) b
      → HoldsNote (kept_in a b) before ⊎ HoldsNote (kept_in a b) after
