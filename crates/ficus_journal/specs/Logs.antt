-- What a slot with records behind it keeps, on each of two disks, and what is known of both.
use Rattle.std.specs.Prelude.{◌≡◌, ◌⊎◌, ◌==◌, ℕ, ◌%◌, ◌/◌, ◌≤◌, ◌<◌, nat_le, Bool, false, if◌then◌else◌, List, ◌∷◌, length, Option, Some, None}
use Rattle.ficus_keeper.specs.Kept.{Kept}
use Rattle.ficus_slot.specs.Slot.{IsSlot, SlotContent, slot_in}
use Rattle.ficus_log.specs.Log.{IsLog, is_open, tail_log}

-- a disk keeps this: the image in an open and whole slot, and the records that are read from its tail on
pub record IsKeptOn (kept : Kept) (bytes : List ℕ) : Type 0 where
  pub tail : ℕ
  pub slot : IsSlot (record { generation = kept.generation; body = kept.image }) tail bytes
  pub rest : List ℕ
  pub log : IsLog kept.generation (record { bodies = kept.records; rest = rest }) (tail ∷ slot.more)

-- one of the disks a and b keeps this, and the other nothing of a greater generation; nor `a` of an equal one, where it
-- is that of `b`
abbrev pub IsKept : Kept → List ℕ → List ℕ → Type 0
IsKept kept a b = (IsKeptOn kept a × ((other : Kept) → IsKeptOn other b → other.generation ≤ kept.generation))
    ⊎ (IsKeptOn kept b × ((other : Kept) → IsKeptOn other a → other.generation < kept.generation))

-- the same as a function (`what_is_kept`): the image in a slot, and the records behind it
abbrev pub log_kept : SlotContent → List ℕ → Kept
log_kept saved bytes = record {
  generation = saved.generation;
  image = saved.body;
  records = (tail_log saved bytes).bodies;
}

abbrev pub logged : List ℕ → Option SlotContent → Option Kept
logged bytes None = None
logged bytes (Some saved) = Some (log_kept saved bytes)

-- what is kept on one disk
abbrev pub kept_on : List ℕ → Option Kept
kept_on bytes = logged bytes (slot_in bytes)

-- the one whose image is of the greater generation, the first where they are equal
abbrev pub later : Option Kept → Option Kept → Option Kept
later None b = b
later (Some a) None = Some a
later (Some a) (Some b) = if nat_le b.generation a.generation then Some a else Some b

-- what is kept on the disks a and b
abbrev pub kept_in : List ℕ → List ℕ → Option Kept
kept_in a b = later (kept_on a) (kept_on b)

-- so many records stand behind an image at most
abbrev pub record_limit : ℕ
record_limit = 64

-- how many calls save a generation: every 65th is an image, all others are records
abbrev pub calls_of_journal : ℕ → ℕ
calls_of_journal generation = if generation % 65 == 0 then 6 else 4

-- whether a generation lies on `a`: an image and the records behind it do where there are evenly many before it
abbrev pub lies_on_a : ℕ → Bool
lies_on_a generation = generation / 65 % 2 == 0

-- no open gate stands behind the last record, where reading ends
abbrev pub EndsShut : List ℕ → Type 0
EndsShut bytes = (saved : SlotContent) → slot_in bytes ≡ Some saved → is_open (tail_log saved bytes).rest ≡ false

-- nor on the other disk
pub record HaveNoOpenGate (a b : List ℕ) : Type 0 where
  pub on_a : EndsShut a
  pub on_b : EndsShut b

-- few records stand behind the slot, and no open gate behind the last
pub record IsTrim (bytes : List ℕ) : Type 0 where
  pub few : (saved : SlotContent) → slot_in bytes ≡ Some saved → length (tail_log saved bytes).bodies ≤ record_limit
  pub shut : EndsShut bytes

-- the images on `a` are of the generations 0, 130, and so on, those on `b` of 65, 195, and so on
pub record IsRegular (a b : List ℕ) : Type 0 where
  pub even : (saved : SlotContent) → slot_in a ≡ Some saved → saved.generation % 130 ≡ 0
  pub odd : (saved : SlotContent) → slot_in b ≡ Some saved → saved.generation % 130 ≡ 65
  pub trim_a : IsTrim a
  pub trim_b : IsTrim b
