-- What a save leaves of a slot where it is cut short.
use Rattle.std.specs.Prelude.{◌≡◌, ◌⊎◌, ℕ, Bool, true, false, List, Some, None}
use Rattle.ficus_slot.specs.Slot.{IsSlot, SlotContent, slot_in}

-- the bytes are this slot, and its tail is closed; so it is read of them
pub record IsNew (saved : SlotContent) (c : List ℕ) : Type 0 where
  pub slot : IsSlot saved 0 c
  pub is : slot_in c ≡ Some saved

-- no slot, or the bytes from before
abbrev pub IsOld : List ℕ → List ℕ → Type 0
IsOld old c = (slot_in c ≡ None) ⊎ (c ≡ old)

-- no slot, the bytes from before, or the new slot
abbrev pub Stays : List ℕ → SlotContent → List ℕ → Type 0
Stays old saved c = IsOld old c ⊎ IsNew saved c

-- the new slot where it is found, and else no slot or the bytes from before
abbrev pub IsFound : Bool → List ℕ → SlotContent → List ℕ → Type 0
IsFound true old saved c = IsNew saved c
IsFound false old saved c = IsOld old c
