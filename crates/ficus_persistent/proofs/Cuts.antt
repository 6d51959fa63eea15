-- What a cut through one of the trees that stand side by side says of all their items.
use Rattle.std.proofs.Common.{◌≡◌, ℕ, ◌+◌, ◌-◌, ◌<◌, ◌≤◌, Bool, true, false, List, ◌++◌, length, get_or, take, drop, slice_get, Some, ◌∙◌, arith, inl, inr}
use Rattle.std.specs.List.Sorted.{IsPartitionedBy}
use Rattle.std.proofs.lemmas.Bool.{cases_lt, false_from_ne_true}
use Rattle.std.proofs.lemmas.List.{get_or-append-add, get_or_append_left}
use Rattle.std.proofs.lemmas.Option.{get_or_from_slice_get, slice_get_within}
use Rattle.ficus_persistent.specs.Cut.{IsCutAt}
use Rattle.ficus_persistent.specs.Shape.{Shape, joined}
use Rattle.ficus_persistent.proofs.Rows.{at_in, joined_split, length-joined_more, length_in_front}

module _ {T : Type 0} (test : T → Bool) (row : List (Shape T)) (parted : IsPartitionedBy test (joined row)) where
  module _ (i : ℕ) (d : Shape T) (x : T) (within : i < length row) (first : slice_get (get_or row i d).items 0 ≡ Some x) where
    found : slice_get (joined row) (length (joined (take i row))) ≡ Some x
    found = at_in row i 0 (length (joined (take i row))) d x within (omega arith) first

    -- where the first item of a tree passes, all in front of it do
    pub front_passes : test x ≡ true → (k : ℕ) (e : T) → k < length (joined (take i row)) →
        test (get_or (joined row) k e) ≡ true
    front_passes passes k e before =
        let n = length (joined (take i row)) in
        parted k n e (omega arith) (slice_get_within (joined row) n x found)
        (rw (get_or_from_slice_get (joined row) n x e found) passes)

    -- where it fails, all from it on do
    pub back_fails : test x ≡ false → (k : ℕ) (e : T) → length (joined (take i row)) ≤ k → k < length (joined row) →
        test (get_or (joined row) k e) ≡ false
    back_fails fails k e from to =
        let n = length (joined (take i row)) in
        false_from_ne_true (test (get_or (joined row) k e))
        (λ passes. let first_passes : test x ≡ true =
        rw (get_or_from_slice_get (joined row) n x e found) at (parted n k e from to passes) in cc (first_passes, fails))

  module _ (i : ℕ) (d : Shape T) (within : i < length row) where
    at_tree : (j : ℕ) (e : T) → j < length (get_or row i d).items →
        get_or (joined row) (length (joined (take i row)) + j) e ≡ get_or (get_or row i d).items j e
    at_tree j e below =
        rw (joined_split row i d within)
        (get_or-append-add (joined (take i row)) ((get_or row i d).items ++ joined (drop (i + 1) row)) j e
        ∙ get_or_append_left (get_or row i d).items (joined (drop (i + 1) row)) e j below)

    long : length (joined (take (i + 1) row)) ≡ length (joined (take i row)) + length (get_or row i d).items
    long = length-joined_more row i d within

    pub parted_in : IsPartitionedBy test (get_or row i d).items
    parted_in j k e order below passes =
        let before = length (joined (take i row)) in
        rw (← at_tree j e (omega arith))
        (parted (before + j) (before + k) e (omega arith) (omega (arith, long, length_in_front row (i + 1)))
        (rw (at_tree k e below) passes))

    pub cut_in_row : (j n : ℕ) → n ≡ length (joined (take i row)) + j → j ≤ length (get_or row i d).items →
        ((k : ℕ) (e : T) → k < length (joined (take i row)) → test (get_or (joined row) k e) ≡ true) →
        ((k : ℕ) (e : T) → length (joined (take (i + 1) row)) ≤ k → k < length (joined row) →
        test (get_or (joined row) k e) ≡ false) → IsCutAt test (get_or row i d).items j → IsCutAt test (joined row) n
    cut_in_row j n at inside front back cut =
        let before = length (joined (take i row)) in (
          λ k e from to. elim (cases_lt k before) [
            | inl first ↦ front k e first
            | inr past ↦ let is : before + (k - before) ≡ k = omega arith in
                rw (← is, at_tree (k - before) e (omega arith)) (cut.0 (k - before) e (omega arith) (omega arith))
          ],
          λ k e from to. elim (cases_lt k (length (joined (take (i + 1) row)))) [
            | inl first ↦ let is : before + (k - before) ≡ k = omega arith in
                rw (← is, at_tree (k - before) e (omega (arith, long)))
                (cut.1 (k - before) e (omega arith) (omega (arith, long)))
            | inr past ↦ back k e past to
          ],
        )
