-- No record stands behind a slot that was saved, nor where there is no slot.
use Rattle.std.proofs.Common.{◌≡◌, ◌⊎◌, inl, inr, ℕ, ◌+◌, ◌%◌, List, [], ◌∷◌, length, drop, Some, None, sym, ◌∙◌, ap, subst, arith}
use Rattle.ficus_slot.specs.Gate.{IsShut}
use Rattle.ficus_slot.specs.Slot.{SlotContent, slot_in}
use Rattle.ficus_slot.specs.Stays.{IsNew, Stays}
use Rattle.ficus_slot.proofs.Written.{tail_of}
use Rattle.ficus_two_slots.specs.Slots.{HasShutTail, IsRegular}

some_same : (s t : SlotContent) → Some s ≡ Some t → s ≡ t
some_same s t is = cc

pub new_shut : {saved : SlotContent} {c : List ℕ} → IsNew saved c → HasShutTail c
new_shut {saved} {c} new s found =
    let same : saved ≡ s = some_same saved s (sym new.is ∙ found) in
    let tail : drop (17 + length s.body) c ≡ 0 ∷ new.slot.more =
    ap (λ (z : SlotContent). drop (17 + length z.body) c) (sym same) ∙ tail_of new.slot in
    subst IsShut (sym tail) (λ is. absurd (omega arith))

pub none_shut : (c : List ℕ) → slot_in c ≡ None → HasShutTail c
none_shut c none s found = absurd (let no = sym none ∙ found in cc)

-- what a save leaves has what the bytes from before have, or such a tail
pub old_or_shut : (Was : List ℕ → Type 0) (old : List ℕ) (saved : SlotContent) (c : List ℕ) → Was old → Stays old saved c
    → Was c ⊎ HasShutTail c
old_or_shut Was old saved c was (inl (inl none)) = inr (none_shut c none)
old_or_shut Was old saved c was (inl (inr same)) = inl (subst Was (sym same) was)
old_or_shut Was old saved c was (inr new) = inr (new_shut new)

-- what was made
pub made_regular : {image a b : List ℕ} → IsNew (record { generation = 0; body = image }) a → b ≡ [] → IsRegular a b
made_regular {image} {a} {b} new empty =
    let none : slot_in b ≡ None = ap slot_in empty in
    let first : SlotContent = record { generation = 0; body = image } in
    record {
      even = λ s found.
          ap (λ (z : SlotContent). z.generation % 2) (sym (some_same first s (sym new.is ∙ found)));
      odd = λ s found. absurd (let no = sym none ∙ found in cc);
      shut_a = new_shut new;
      shut_b = none_shut b none;
    }
