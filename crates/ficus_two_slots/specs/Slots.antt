-- What two slots keep, and what is known of them.
use Rattle.std.specs.Prelude.{◌≡◌, ◌==◌, ℕ, ◌+◌, ◌%◌, ◌<◌, nat_le, Bool, true, false, if◌then◌else◌, List, length, drop, Option, Some, None}
use Rattle.ficus_keeper.specs.Kept.{Kept, image_alone}
use Rattle.ficus_slot.specs.Gate.{GateIs, IsShut}
use Rattle.ficus_slot.specs.Slot.{SlotContent, slot_in}

-- the one of the greater generation, the first where they are equal
abbrev pub greater : Option SlotContent → Option SlotContent → Option SlotContent
greater None b = b
greater (Some a) None = Some a
greater (Some a) (Some b) = if nat_le b.generation a.generation then Some a else Some b

-- the slot in force on the disks a and b
abbrev pub in_force : List ℕ → List ℕ → Option SlotContent
in_force a b = greater (slot_in a) (slot_in b)

-- what is kept of a slot
abbrev pub kept_slot : Option SlotContent → Option Kept
kept_slot None = None
kept_slot (Some saved) = Some (image_alone saved.generation saved.body)

-- what is kept on the disks a and b
abbrev pub kept_in : List ℕ → List ℕ → Option Kept
kept_in a b = kept_slot (in_force a b)

-- the slot in force and the other one, which is written next: its generation is below the bound, and whether its gate
-- is closed
pub record Stands (generation bound : ℕ) (shut : Bool) (force other : List ℕ) : Type 0 where
  pub body : List ℕ
  pub in_force : slot_in force ≡ Some (record { generation = generation; body = body })
  pub loses : (saved : SlotContent) → slot_in other ≡ Some saved → saved.generation < bound
  pub gate : GateIs shut other

-- where the slot in force lies on `a`, or on `b`, the other one is of a generation below this
abbrev pub bound : Bool → ℕ → ℕ
bound true generation = generation + 1
bound false generation = generation

-- the slot in force lies on `a`, or on `b`
abbrev pub StandsOn : Bool → ℕ → Bool → List ℕ → List ℕ → Type 0
StandsOn true generation shut a b = Stands generation (generation + 1) shut a b
StandsOn false generation shut a b = Stands generation generation shut b a

-- how many calls save a generation
abbrev pub calls_of_slots : ℕ → ℕ
calls_of_slots generation = 6

-- whether a generation lies on `a`: the even ones do
abbrev pub lies_on_a : ℕ → Bool
lies_on_a generation = generation % 2 == 0

-- the tail of the slot is a closed gate, so that no record stands behind it
abbrev pub HasShutTail : List ℕ → Type 0
HasShutTail bytes = (saved : SlotContent) → slot_in bytes ≡ Some saved → IsShut (drop (17 + length saved.body) bytes)

-- even generations lie on `a`, odd ones on `b`, and no record behind either
pub record IsRegular (a b : List ℕ) : Type 0 where
  pub even : (saved : SlotContent) → slot_in a ≡ Some saved → saved.generation % 2 ≡ 0
  pub odd : (saved : SlotContent) → slot_in b ≡ Some saved → saved.generation % 2 ≡ 1
  pub shut_a : HasShutTail a
  pub shut_b : HasShutTail b
