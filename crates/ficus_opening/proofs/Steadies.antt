-- What stays of the disks of all pairs, while one pair after the other is asked.
use Rattle.std.proofs.Common.{◌≡◌, ◌≢◌, ℕ, ◌+◌, ◌-◌, ◌<◌, ◌≤◌, List, length, get_or, refl, sym, ap, subst, ◌∙◌, inl, inr, ◌⊎◌, arith}
use Rattle.std.specs.Prelude.{slice_set, ◌==◌, if◌then◌else◌}
use Rattle.std.proofs.lemmas.List.{length-set}
use Rattle.ficus_disk.specs.Pair.{PairRose}
use Rattle.ficus_disk.specs.declared.pair.Pair.{Pair}
use Rattle.ficus_ids.specs.Members.{IsMember}
use Rattle.ficus_keeper.specs.Pairs.{PairSame}
use Rattle.ficus_runs.specs.Numbered.{IsNumbered}
use Rattle.ficus_opening.specs.Opening.{AreSynced, IsAtFault, IsSynced, Steady}
use Rattle.ficus_runs.proofs.Numbers.{number_once, number_read, number_exists}
use Rattle.ficus_runs.proofs.Replaced.{replaced}

-- what stands at an index has the number above it
pub number_at : {A : Type 0} (list : List A) (index : ℕ) (x : A) → index < length list → x ≡ get_or list index x
    → IsNumbered list (index + 1) x
number_at list index x within is =
    let place : index ≡ index + 1 - 1 = omega arith in
    number_read list (index + 1) x x (record { at_least = omega arith; at_most = omega (arith, within) })
    (sym (is ∙ ap (λ k. get_or list k x) place))

-- of eight pairs the next one belongs to the member behind those before it
pub next_at : {D : Type 0} {disks : List (Pair D)} {count end before index : ℕ} {pair : Pair D} → length disks ≡ 8
    → before < end → end ≡ count → count ≤ 8 → index ≡ before → pair ≡ get_or disks index pair
    → IsNumbered disks (index + 1) pair
next_at {disks = disks} {index = index} {pair = pair} pairs below is most at found =
    number_at disks index pair (omega (arith, pairs, below, is, most, at)) found

-- one is set at an index, and the others stay
pub set_at : {A : Type 0} (list : List A) (index q : ℕ) (next found : A)
    → IsNumbered (slice_set list index next) q found
    → ((q ≡ index + 1) × (found ≡ next)) ⊎ ((index + 1 ≢ q) × IsNumbered list q found)
set_at {A} list index q next found is =
    let place : index ≡ index + 1 - 1 = omega arith in
    replaced list (index + 1) q next found (omega arith)
    (subst (λ k. IsNumbered (slice_set list k next) q found) place is)

module _ {D A : Type 0} (what : D → A) where
  pub steady_none : (disks : List (Pair D)) → Steady what disks disks
  steady_none disks = record {
    count = refl;
    each = λ r was now at at_now.
        let same = number_once at at_now in
        record { a = ap (λ (p : Pair D). what p.a) (sym same); b = ap (λ (p : Pair D). what p.b) (sym same) };
  }

  pub same_trans : (one two three : Pair D) → PairSame what one two → PairSame what two three → PairSame what one three
  same_trans one two three first second = record { a = second.a ∙ first.a; b = second.b ∙ first.b }

  -- as many pairs, so that each has its like
  like : (old new : List (Pair D)) → length new ≡ length old → (r : ℕ) (was : Pair D) → IsNumbered old r was
      → (now : Pair D) × IsNumbered new r now
  like old new count r was at = number_exists new r (subst (λ n. IsMember n r) (sym count) at.member)

  pub steady_set : (old new : List (Pair D)) (index : ℕ) (before after : Pair D) → Steady what old new
      → IsNumbered new (index + 1) before → PairSame what before after → Steady what old (slice_set new index after)
  steady_set old new index before after steady at same = record {
    count = length-set new index after ∙ steady.count;
    each = λ r was now at_was at_now. elim (set_at new index r after now at_now) [
      | inl (number, is) ↦
          subst (λ (p : Pair D). PairSame what was p) (sym is)
          (same_trans was before after
          (steady.each (index + 1) was before (subst (λ k. IsNumbered old k was) number at_was) at) same)
      | inr (differs, kept) ↦ steady.each r was now at_was kept
    ];
  }

  pub steady_trans : (old middle new : List (Pair D)) → Steady what old middle → Steady what middle new
      → Steady what old new
  steady_trans old middle new first second = record {
    count = second.count ∙ first.count;
    each = λ r was now at_was at_now.
        let found = like old middle first.count r was at_was in
        same_trans was found.0 now (first.each r was found.0 at_was found.1) (second.each r found.0 now found.1 at_now);
  }

  pub steady_back : (old new : List (Pair D)) → Steady what old new → Steady what new old
  steady_back old new steady = record {
    count = sym steady.count;
    each = λ r was now at_was at_now.
        let same = steady.each r now was at_now at_was in
        record { a = sym same.a; b = sym same.b };
  }

one_at : (q r : ℕ) → q ≡ r → ◌≡◌ {A = ℕ} (if q == r then 1 else 0) 1
one_at q r same = grind arith

none_at : (q r : ℕ) → r ≢ q → ◌≡◌ {A = ℕ} (if q == r then 1 else 0) 0
none_at q r differs = grind arith

module _ {D : Type 0} (faults : D → ℕ) where
  pub rose_from : (by : ℕ) (was before now : Pair D) → PairSame faults was before → PairRose faults by before now
      → PairRose faults by was now
  rose_from by was before now same rose = record {
    a = omega (arith, same.a, rose.a);
    b = omega (arith, same.b, rose.b);
    sum = λ x y. let sum = rose.sum x y in omega (arith, sum, same.a, same.b);
  }

  rose_none : (was now : Pair D) → PairSame faults was now → PairRose faults 0 was now
  rose_none was now same = record {
    a = omega (arith, same.a);
    b = omega (arith, same.b);
    sum = λ x y. omega (arith, same.a, same.b);
  }

  -- one pair has failed, behind others that haven't
  pub fault_set : (old new : List (Pair D)) (index : ℕ) (before after : Pair D) → Steady faults old new
      → IsNumbered new (index + 1) before → PairRose faults 1 before after
      → IsAtFault faults old (slice_set new index after) (index + 1)
  fault_set old new index before after steady at rose = record {
    is = subst (λ n. IsMember n (index + 1)) steady.count at.member;
    count = length-set new index after ∙ steady.count;
    each = λ q was now at_was at_now. elim (set_at new index q after now at_now) [
      | inl (number, is) ↦
          subst (λ n. PairRose faults n was now) (sym (one_at q (index + 1) number))
          (subst (λ (p : Pair D). PairRose faults 1 was p) (sym is)
          (rose_from 1 was before after
          (steady.each (index + 1) was before (subst (λ k. IsNumbered old k was) number at_was) at) rose))
      | inr (differs, kept) ↦
          subst (λ n. PairRose faults n was now) (sym (none_at q (index + 1) differs))
          (rose_none was now (steady.each q was now at_was kept))
    ];
  }

  pub fault_behind : (old middle new : List (Pair D)) (r : ℕ) → Steady faults old middle
      → IsAtFault faults middle new r → IsAtFault faults old new r
  fault_behind old middle new r steady fault = record {
    is = subst (λ n. IsMember n r) steady.count fault.is;
    count = fault.count ∙ steady.count;
    each = λ q was now at_was at_now.
        let found = number_exists middle q (subst (λ n. IsMember n q) (sym steady.count) at_was.member) in
        rose_from _ was found.0 now (steady.each q was found.0 at_was found.1) (fault.each q found.0 now found.1 at_now);
  }

-- one pair is set
pub steady_one : {D A : Type 0} (what : D → A) (disks : List (Pair D)) (index : ℕ) (before after : Pair D)
    → index < length disks → before ≡ get_or disks index before → PairSame what before after
    → Steady what disks (slice_set disks index after)
steady_one what disks index before after within is same =
    steady_set what disks disks index before after (steady_none what disks) (number_at disks index before within is) same

module _ {D : Type 0} (seen : D → List ℕ) (may_leave : D → List ℕ → Type 0) where
  -- where one pair stays so, all do
  pub synced_set : (disks : List (Pair D)) (index count : ℕ) (before after : Pair D)
      → AreSynced seen may_leave disks count → IsNumbered disks (index + 1) before
      → (IsSynced seen may_leave before → IsSynced seen may_leave after) → index < count
      → AreSynced seen may_leave (slice_set disks index after) count
  synced_set disks index count before after synced at keeps within = record {
    each = λ r pair at_pair most. elim (set_at disks index r after pair at_pair) [
      | inl (number, is) ↦
          subst (λ (p : Pair D). IsSynced seen may_leave p) (sym is)
          (keeps (synced.each (index + 1) before at (omega (arith, within))))
      | inr (differs, kept) ↦ synced.each r pair kept most
    ];
  }
