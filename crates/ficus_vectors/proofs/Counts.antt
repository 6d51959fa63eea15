-- Lists of eight counts.
use Rattle.std.proofs.Common.{◌≡◌, ◌⊎◌, inl, inr, ℕ, zero, suc, ◌+◌, ◌<◌, ◌≤◌, max, List, length, get_or, set, arith, ap, sym, ◌∙◌}
use Rattle.std.proofs.lemmas.Bool.{cases_eq, cases_lt}
use Rattle.std.proofs.lemmas.List.{get_or-set_same, get_or-set_other, get_or_past}
use Rattle.ficus_vectors.specs.Vector.{count_in, count_of, Counts, in_order, vector_of, join, Covers}
use Rattle.ficus_vectors.specs.VectorLaws.{same_eight}

-- eight counts, where a vector is theirs
pub in_order_is : (xs : List ℕ) (v : Counts) → length xs ≡ 8 → vector_of (count_in xs) ≡ v → xs ≡ in_order v
in_order_is xs v long is = sym (same_eight xs long) ∙ ap in_order is

count_is : (xs : List ℕ) (replica : ℕ) → length xs ≡ 8 →
    count_of (vector_of (count_in xs)) replica ≡ count_in xs replica
count_is xs replica long = ap (λ l. count_in l replica) (same_eight xs long)

pub covers_from : (xs ys : List ℕ) → length xs ≡ 8 → length ys ≡ 8 →
    ((k : ℕ) → k < 8 → get_or ys k 0 ≤ get_or xs k 0) → Covers (vector_of (count_in xs)) (vector_of (count_in ys))
covers_from xs ys long others least = record { each = λ replica. rw (count_is xs replica long, count_is ys replica others) (at replica) }
  where
    at : (replica : ℕ) → count_in ys replica ≤ count_in xs replica
    at zero = omega arith
    at (suc k) = elim (cases_lt k 8) [
      | inl within ↦ least k within
      | inr beyond ↦ rw (get_or_past ys k 0 (omega arith)) (omega arith)
    ]

pub not_covers : (xs ys : List ℕ) (k : ℕ) → length xs ≡ 8 → length ys ≡ 8 → get_or xs k 0 < get_or ys k 0 →
    Covers (vector_of (count_in xs)) (vector_of (count_in ys)) → ⊥
not_covers xs ys k long others less covers =
    let least : count_of (vector_of (count_in ys)) (suc k) ≤ count_of (vector_of (count_in xs)) (suc k) = covers.each (suc k) in
    let here : count_in ys (suc k) ≤ count_in xs (suc k) = omega (arith, least, count_is xs (suc k) long, count_is ys (suc k) others) in
    absurd (omega arith)

pub join_from : (cs xs ys : List ℕ) → length xs ≡ 8 → length ys ≡ 8 →
    ((k : ℕ) → k < 8 → get_or cs k 0 ≡ max (get_or xs k 0) (get_or ys k 0)) →
    vector_of (count_in cs) ≡ join (vector_of (count_in xs)) (vector_of (count_in ys))
unfolding join
join_from cs xs ys long others greater = λ i. record {
  first = greater 0 (omega arith) i;
  second = greater 1 (omega arith) i;
  third = greater 2 (omega arith) i;
  fourth = greater 3 (omega arith) i;
  fifth = greater 4 (omega arith) i;
  sixth = greater 5 (omega arith) i;
  seventh = greater 6 (omega arith) i;
  eighth = greater 7 (omega arith) i;
}

pub join_step : (cs xs ys : List ℕ) (i x : ℕ) → i < length cs → x ≡ max (get_or cs i 0) (get_or ys i 0) →
    ((k : ℕ) → k < i → get_or cs k 0 ≡ max (get_or xs k 0) (get_or ys k 0)) →
    ((k : ℕ) → i ≤ k → get_or cs k 0 ≡ get_or xs k 0) →
    ((k : ℕ) → k < i + 1 → get_or (set cs i x) k 0 ≡ max (get_or xs k 0) (get_or ys k 0)) ×
    ((k : ℕ) → i + 1 ≤ k → get_or (set cs i x) k 0 ≡ get_or xs k 0)
join_step cs xs ys i x within is before behind =
    ((λ k below. go k below (cases_eq k i)), (λ k above. get_or-set_other cs i k x 0 (λ f. omega arith) ∙ behind k (omega arith)))
  where
    go : (k : ℕ) → k < i + 1 → (k ≡ i) ⊎ (k ≡ i → ⊥) → get_or (set cs i x) k 0 ≡ max (get_or xs k 0) (get_or ys k 0)
    go k below (inl here) = rw here (get_or-set_same cs i x 0 within ∙ is ∙ ap (λ z. max z (get_or ys i 0)) (behind i (omega arith)))
    go k below (inr other) = get_or-set_other cs i k x 0 other ∙ before k (omega arith)
