-- What is kept of a volume that was made, whatever keeper reads it.
use Rattle.std.proofs.Common.{◌≡◌, ◌⊎◌, inl, inr, ⊎_elim, ℕ, Result, OnOk, Option, List, [], Some, None, sym, ◌∙◌, ap, subst, arith}
use Rattle.ficus_disk.specs.Crash.{Elapses, Only, Within}
use Rattle.ficus_disk.specs.declared.pair.Pair.{Pair}
use Rattle.ficus_keeper.specs.Calls.{Makes}
use Rattle.ficus_keeper.specs.Kept.{Kept, image_alone}
use Rattle.ficus_keeper.specs.Moments.{LeavesOnly}
use Rattle.ficus_keeper.proofs.Results.{in_ok}
use Rattle.ficus_slot.specs.Slot.{SlotContent, slot_in}
use Rattle.ficus_slot.specs.Stays.{IsNew, IsOld, Stays}
use Rattle.ficus_two_slots.specs.Slots.{IsRegular, kept_in}
use Rattle.ficus_two_slots.proofs.Tails.{made_regular}

-- the slot of an image that is made
abbrev pub made_slot : List ℕ → SlotContent
made_slot image = record { generation = 0; body = image }

-- what a keeper reads where an image was made on the first disk, the second being empty
pub record ReadsMade (kept_by : List ℕ → List ℕ → Option Kept) (Regular : List ℕ → List ℕ → Type 0) (image : List ℕ) :
    Type 0 where
  pub new : (a b : List ℕ) → IsNew (made_slot image) a → b ≡ [] → kept_by a b ≡ Some (image_alone 0 image)
  pub none : (a b : List ℕ) → slot_in a ≡ None → b ≡ [] → kept_by a b ≡ None
  pub regular : (a b : List ℕ) → IsNew (made_slot image) a → b ≡ [] → Regular a b

-- two slots read so
pub reads_made : (image : List ℕ) → ReadsMade kept_in IsRegular image
reads_made image = record {
  new = λ a b new empty. in_force a b new.is (ap slot_in empty);
  none = λ a b none empty. nothing a b none (ap slot_in empty);
  regular = λ a b new empty. made_regular new empty;
}
  where
    in_force : (a b : List ℕ) → slot_in a ≡ Some (made_slot image) → slot_in b ≡ None
        → kept_in a b ≡ Some (image_alone 0 image)
    in_force a b first second = cc

    nothing : (a b : List ℕ) → slot_in a ≡ None → slot_in b ≡ None → kept_in a b ≡ None
    nothing a b first second = cc

-- what making comes to, and what a crash leaves of it: memory is reserved on `a`, and the image is saved there
module _ (kept_by : List ℕ → List ℕ → Option Kept) (Regular : List ℕ → List ℕ → Type 0) (image : List ℕ)
    (reads : ReadsMade kept_by Regular image) where
  left_old : (old a b : List ℕ) → IsOld old a → old ≡ [] → b ≡ [] → kept_by a b ≡ None
  left_old old a b (inl none) was empty = reads.none a b none empty
  left_old old a b (inr same) was empty = reads.none a b (ap slot_in (same ∙ was)) empty

  left : (old a b : List ℕ) → Stays old (made_slot image) a → old ≡ [] → b ≡ []
      → (kept_by a b ≡ None) ⊎ (kept_by a b ≡ Some (image_alone 0 image))
  left old a b (inl is) was empty = inl (left_old old a b is was empty)
  left old a b (inr new) was empty = inr (reads.new a b new empty)

  made_of : {D T E : Type 0} (seen : D → List ℕ) (may_leave : D → List ℕ → Type 0) (moment : D → ℕ)
      (left_since : D → ℕ → List ℕ → Type 0) (old : Pair D) (mid disk : D) (result : Result T E)
      → ((d : D) (c : List ℕ) → left_since d (moment d) c → may_leave d c) → seen old.a ≡ [] → seen old.b ≡ []
      → seen mid ≡ seen old.a → Within (may_leave old.a) (may_leave mid)
      → Elapses (moment old.a) (moment mid) (left_since old.a) (left_since mid) (may_leave mid)
      → (Only (seen mid) (may_leave mid) → (c : List ℕ) → may_leave disk c → Stays (seen mid) (made_slot image) c)
      → (Only (seen mid) (may_leave mid) → LeavesOnly (moment mid) (moment disk) (left_since mid) (left_since disk)
      (Stays (seen mid) (made_slot image)))
      → OnOk result (IsNew (made_slot image) (seen disk)) → OnOk result (Only (seen disk) (may_leave disk))
      → Makes kept_by Regular seen may_leave moment left_since image old (record { a = disk; b = old.b }) result
  made_of seen may_leave moment left_since old mid disk result only_now empty_a empty_b still within elapses crash time saved durable =
      let synced : Only (seen old.a) (may_leave old.a) → Only (seen mid) (may_leave mid) =
      λ only_a z left. only_a z (within z left) ∙ sym still in
      record {
        kept = in_ok result (λ new. reads.new (seen disk) (seen old.b) new empty_b) saved;
        durable = durable;
        crash = λ only_a only_b. record {
          each = λ x y left_x left_y. left (seen mid) x y (crash (synced only_a) x left_x) (still ∙ empty_a)
              (only_b y left_y ∙ empty_b);
        };
        between = λ only_a only_b. record {
          each = λ x y left_x left_y.
              let nothing = only_b y (only_now old.b y left_y) ∙ empty_b in
              ⊎_elim
              (λ past. inl (left_old (seen old.a) x y (inr (⊎_elim (λ before. only_a x (only_now old.a x before))
              (λ left. only_a x (within x left)) (elapses.nothing_else _ x (omega arith) past))) empty_a nothing))
              (λ stays. left (seen mid) x y stays (still ∙ empty_a) nothing)
              ((time (synced only_a)).nothing_else _ x elapses.later left_x);
        };
        regular = in_ok result (λ new. reads.regular (seen disk) (seen old.b) new empty_b) saved;
      }

-- the same of the image that is framed
pub made : {D T E : Type 0} (kept_by : List ℕ → List ℕ → Option Kept) (Regular : List ℕ → List ℕ → Type 0)
    (seen : D → List ℕ) (may_leave : D → List ℕ → Type 0) (moment : D → ℕ) (left_since : D → ℕ → List ℕ → Type 0)
    (image : List ℕ) {body : List ℕ} (reads : ReadsMade kept_by Regular image) (old : Pair D) (mid disk : D)
    (result : Result T E) → body ≡ image
    → ((d : D) (c : List ℕ) → left_since d (moment d) c → may_leave d c) → seen old.a ≡ [] → seen old.b ≡ []
    → seen mid ≡ seen old.a → Within (may_leave old.a) (may_leave mid)
    → Elapses (moment old.a) (moment mid) (left_since old.a) (left_since mid) (may_leave mid)
    → (Only (seen mid) (may_leave mid) → (c : List ℕ) → may_leave disk c → Stays (seen mid) (made_slot body) c)
    → (Only (seen mid) (may_leave mid) → LeavesOnly (moment mid) (moment disk) (left_since mid) (left_since disk)
    (Stays (seen mid) (made_slot body)))
    → OnOk result (IsNew (made_slot body) (seen disk)) → OnOk result (Only (seen disk) (may_leave disk))
    → Makes kept_by Regular seen may_leave moment left_since image old (record { a = disk; b = old.b }) result
made kept_by Regular seen may_leave moment left_since image {body} reads old mid disk result same only_now empty_a empty_b
    still within elapses crash time saved durable =
    made_of kept_by Regular image reads seen may_leave moment left_since old mid disk result only_now empty_a empty_b still
    within elapses
    (subst (λ (l : List ℕ). Only (seen mid) (may_leave mid) → (c : List ℕ) → may_leave disk c → Stays (seen mid) (made_slot l) c)
    same crash)
    (subst (λ (l : List ℕ). Only (seen mid) (may_leave mid) → LeavesOnly (moment mid) (moment disk) (left_since mid)
    (left_since disk) (Stays (seen mid) (made_slot l))) same time)
    (subst (λ (l : List ℕ). OnOk result (IsNew (made_slot l) (seen disk))) same saved) durable
