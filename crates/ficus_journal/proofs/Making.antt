-- What is kept of a volume that was made.
use Rattle.std.proofs.Common.{◌≡◌, ℕ, List, [], ◌∷◌, Some, None, refl, sym, ◌∙◌, ap, arith}
use Rattle.ficus_keeper.specs.Kept.{image_alone}
use Rattle.ficus_slot.specs.Slot.{SlotContent, slot_in}
use Rattle.ficus_slot.specs.Stays.{IsNew}
use Rattle.ficus_two_slots.proofs.Making.{ReadsMade}
use Rattle.ficus_journal.specs.Logs.{IsRegular, kept_in, kept_on, later}
use Rattle.ficus_journal.proofs.Choosing.{kept_none}
use Rattle.ficus_journal.proofs.Regular.{trim_log, trim_none}
use Rattle.ficus_journal.proofs.Sides.{kept_log, new_log, saved_as}

made_kept : (body a b : List ℕ) → IsNew (saved_as 0 body) a → b ≡ [] → kept_in a b ≡ Some (image_alone 0 body)
made_kept body a b new empty =
    ap (λ (l : List ℕ). kept_in a l) empty
    ∙ ap (λ k. later k (kept_on [])) (kept_log (saved_as 0 body) [] (0 ∷ new.slot.more) a (new_log (saved_as 0 body) a new))

made_regular : (body a b : List ℕ) → IsNew (saved_as 0 body) a → b ≡ [] → IsRegular a b
made_regular body a b new empty =
    let none : slot_in b ≡ None = ap slot_in empty in
    record {
      even = λ s found. let is : saved_as 0 body ≡ s = some_same (saved_as 0 body) s (sym new.is ∙ found) in
          omega (arith, ap (λ (z : SlotContent). z.generation) is);
      odd = λ s found. absurd (let isnt = sym none ∙ found in cc);
      trim_a = trim_log (saved_as 0 body) [] (0 ∷ new.slot.more) a (new_log (saved_as 0 body) a new) (omega arith) refl;
      trim_b = trim_none b none;
    }
  where
    some_same : (s t : SlotContent) → Some s ≡ Some t → s ≡ t
    some_same s t is = cc

-- a journal reads of a volume that was made what two slots do
pub reads_made : (image : List ℕ) → ReadsMade kept_in IsRegular image
reads_made image = record {
  new = λ a b new empty. made_kept image a b new empty;
  none = λ a b none empty. ap (λ (l : List ℕ). kept_in a l) empty ∙ ap (λ k. later k (kept_on [])) (kept_none a none);
  regular = λ a b new empty. made_regular image a b new empty;
}
