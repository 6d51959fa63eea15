-- Laws of vectors, for the proofs of this crate and of those above it.
use Rattle.std.specs.Prelude.{◌≡◌, ◌≢◌, ◌⊎◌, get_or, ℕ, zero, suc, ◌+◌, ◌≤◌, ◌==◌, Bool, true, false, if◌then◌else◌, max, List, [], ◌∷◌, length, refl}
use Rattle.std.specs.Cmp.{IsTotalOrder, on_total, nat_cmp_is}
use Rattle.std.specs.Cmp.Lexicographic.{slice_cmp, nat_list_cmp_total}
use Rattle.std.specs.declared.cmp.Ordering.TheVariants.{Less, Equal, Greater}
use Rattle.std.specs.Ordering.{nat_cmp, ordering_reverse, ordering_then}
use Rattle.std.proofs.Common.{arith, ap, sym, ◌∙◌, inl, inr}
use Rattle.std.proofs.lemmas.Bool.{cases_order, cases_lt, eqb-true}
use Rattle.std.proofs.lemmas.List.{get_or_past}
use Rattle.std.proofs.lemmas.Map.Lookups.{exact_bytes}
use Rattle.ficus_vectors.specs.Vector.{Counts, in_order, count_in, count_of, vector_of, no_counts, join, bump, vector_cmp, Covers, IsOver}

-- a list of eight counts is that of its vector
pub same_eight : (counts : List ℕ) → length counts ≡ 8 → in_order (vector_of (count_in counts)) ≡ counts
same_eight (a ∷ b ∷ c ∷ d ∷ e ∷ f ∷ g ∷ h ∷ []) long = refl
same_eight counts long = absurd (omega arith)

-- vectors with the same counts are equal
pub same_vector : (v w : Counts) → ((replica : ℕ) → count_of v replica ≡ count_of w replica) → v ≡ w
same_vector v w same = λ i. vector_of (λ replica. same replica i)

-- two vectors that cover each other are equal
pub equal_by_covers : (v w : Counts) → Covers v w → Covers w v → v ≡ w
equal_by_covers v w over under =
    same_vector v w (λ replica. let a = over.each replica in let b = under.each replica in omega (arith, a, b))

pub covers_itself : (v : Counts) → Covers v v
covers_itself v = record { each = λ replica. omega arith }

pub covers_trans : (v w u : Counts) → Covers v w → Covers w u → Covers v u
covers_trans v w u first second = record { each = λ replica. omega (arith, first.each replica, second.each replica) }

-- the order of vectors is total, and tells different ones apart
pub vector_cmp_total : IsTotalOrder vector_cmp
unfolding vector_cmp
vector_cmp_total = on_total in_order nat_list_cmp_total

pub vector_cmp-Equal : (v w : Counts) → vector_cmp v w ≡ Equal → v ≡ w
unfolding vector_cmp
vector_cmp-Equal v w is = ap (λ counts. vector_of (count_in counts)) (exact_bytes (in_order v) (in_order w) is)

pub vector_cmp-flip : (v w : Counts) → vector_cmp v w ≡ Greater → vector_cmp w v ≡ Less
vector_cmp-flip v w is = vector_cmp_total.antisymm w v ∙ ap ordering_reverse is

-- the counts of a join
pub count_of-join : (v w : Counts) (replica : ℕ) → count_of (join v w) replica ≡ max (count_of v replica)
    (count_of w replica)
unfolding join
count_of-join v w zero = refl
count_of-join v w (suc zero) = refl
count_of-join v w (suc (suc zero)) = refl
count_of-join v w (suc (suc (suc zero))) = refl
count_of-join v w (suc (suc (suc (suc zero)))) = refl
count_of-join v w (suc (suc (suc (suc (suc zero))))) = refl
count_of-join v w (suc (suc (suc (suc (suc (suc zero)))))) = refl
count_of-join v w (suc (suc (suc (suc (suc (suc (suc zero))))))) = refl
count_of-join v w (suc (suc (suc (suc (suc (suc (suc (suc zero)))))))) = refl
count_of-join v w (suc (suc (suc (suc (suc (suc (suc (suc (suc replica))))))))) = refl

pub count_of-none : (replica : ℕ) → count_of no_counts replica ≡ 0
unfolding no_counts
count_of-none zero = refl
count_of-none (suc zero) = refl
count_of-none (suc (suc zero)) = refl
count_of-none (suc (suc (suc zero))) = refl
count_of-none (suc (suc (suc (suc zero)))) = refl
count_of-none (suc (suc (suc (suc (suc zero))))) = refl
count_of-none (suc (suc (suc (suc (suc (suc zero)))))) = refl
count_of-none (suc (suc (suc (suc (suc (suc (suc zero))))))) = refl
count_of-none (suc (suc (suc (suc (suc (suc (suc (suc zero)))))))) = refl
count_of-none (suc (suc (suc (suc (suc (suc (suc (suc (suc replica))))))))) = refl

-- no counts but those of the replicas 1 to 8
pub count_of-beyond : (v : Counts) (replica : ℕ) → (1 ≤ replica → replica ≤ 8 → ⊥) → count_of v replica ≡ 0
count_of-beyond v zero beyond = refl
count_of-beyond v (suc index) beyond = elim (cases_lt index 8) [
  | inl within ↦ absurd (beyond (omega arith) (omega arith))
  | inr past ↦ get_or_past (in_order v) index 0 past
]

-- the counts with one more for a replica
pub count_of-bump : (by : ℕ) (v : Counts) (replica : ℕ) → 1 ≤ replica → replica ≤ 8 →
    count_of (bump by v) replica ≡ (if replica == by then count_of v replica + 1 else count_of v replica)
unfolding bump
count_of-bump by v zero at_least at_most = absurd (omega arith)
count_of-bump by v (suc zero) at_least at_most = refl
count_of-bump by v (suc (suc zero)) at_least at_most = refl
count_of-bump by v (suc (suc (suc zero))) at_least at_most = refl
count_of-bump by v (suc (suc (suc (suc zero)))) at_least at_most = refl
count_of-bump by v (suc (suc (suc (suc (suc zero))))) at_least at_most = refl
count_of-bump by v (suc (suc (suc (suc (suc (suc zero)))))) at_least at_most = refl
count_of-bump by v (suc (suc (suc (suc (suc (suc (suc zero))))))) at_least at_most = refl
count_of-bump by v (suc (suc (suc (suc (suc (suc (suc (suc zero)))))))) at_least at_most = refl
count_of-bump by v (suc (suc (suc (suc (suc (suc (suc (suc (suc replica))))))))) at_least at_most = absurd (omega arith)

-- one more at most, and none for another replica
pub bump_at_most : (by : ℕ) (v : Counts) (replica : ℕ) → count_of (bump by v) replica ≤ count_of v replica + 1
bump_at_most by v replica = elim (cases_lt 0 replica) [
  | inl some ↦ elim (cases_lt replica 9) [
    | inl within ↦ rw (count_of-bump by v replica some (omega arith)) (by_answer (replica == by))
    | inr past ↦ omega (arith, count_of-beyond (bump by v) replica (λ from to. omega arith))
  ]
  | inr none ↦ omega (arith, count_of-beyond (bump by v) replica (λ from to. omega arith))
]
  where
    by_answer : (answer : Bool) →
        (if answer then count_of v replica + 1 else count_of v replica) ≤ count_of v replica + 1
    by_answer true = omega arith
    by_answer false = omega arith

pub bump_other : (by : ℕ) (v : Counts) (replica : ℕ) → replica ≢ by →
    count_of (bump by v) replica ≡ count_of v replica
bump_other by v replica other = elim (cases_lt 0 replica) [
  | inl some ↦ elim (cases_lt replica 9) [
    | inl within ↦ count_of-bump by v replica some (omega arith) ∙ by_answer (replica == by) refl
    | inr past ↦ neither (λ from to. omega arith)
  ]
  | inr none ↦ neither (λ from to. omega arith)
]
  where
    neither : (1 ≤ replica → replica ≤ 8 → ⊥) → count_of (bump by v) replica ≡ count_of v replica
    neither beyond = count_of-beyond (bump by v) replica beyond ∙ sym (count_of-beyond v replica beyond)

    by_answer : (answer : Bool) → (replica == by) ≡ answer →
        (if answer then count_of v replica + 1 else count_of v replica) ≡ count_of v replica
    by_answer true is = absurd (other (eqb-true replica by is))
    by_answer false is = refl

pub join_comm : (v w : Counts) → join v w ≡ join w v
join_comm v w = same_vector (join v w) (join w v)
    (λ replica. rw (count_of-join v w replica, count_of-join w v replica) (omega arith))

pub join_assoc : (v w u : Counts) → join (join v w) u ≡ join v (join w u)
join_assoc v w u = same_vector (join (join v w) u) (join v (join w u)) (λ replica.
    rw (
      count_of-join (join v w) u replica,
      count_of-join v w replica,
      count_of-join v (join w u) replica,
      count_of-join w u replica,
    ) (omega arith))

-- the join with what is covered already changes nothing
pub join_covered : (v w : Counts) → Covers v w → join v w ≡ v
join_covered v w covers =
    same_vector (join v w) v (λ replica. rw (count_of-join v w replica) (omega (arith, covers.each replica)))

pub join_with_none : (v : Counts) → join v no_counts ≡ v
join_with_none v = join_covered v no_counts (record { each = λ replica. none_below replica })
  where
    none_below : (replica : ℕ) → count_of no_counts replica ≤ count_of v replica
    none_below replica = omega (arith, count_of-none replica)

pub none_joined : (v : Counts) → join no_counts v ≡ v
none_joined v = join_comm no_counts v ∙ join_with_none v

pub not_before_itself : (v : Counts) → vector_cmp v v ≡ Less → ⊥
not_before_itself v is =
    let other : vector_cmp v v ≡ Greater = vector_cmp_total.antisymm v v ∙ ap ordering_reverse is in
    cc

lists_after : (xs ys : List ℕ) → length xs ≡ length ys → ((k : ℕ) → get_or xs k 0 ≤ get_or ys k 0) →
    (slice_cmp nat_cmp xs ys ≡ Less) ⊎ (xs ≡ ys)
lists_after [] [] long least = inr refl
lists_after [] (y ∷ ys) long least = absurd (omega arith)
lists_after (x ∷ xs) [] long least = absurd (omega arith)
lists_after (x ∷ xs) (y ∷ ys) long least =
    let rest = lists_after xs ys (omega arith) (λ k. least (suc k)) in
    let first : x ≤ y = least 0 in
    elim (cases_order x y) [
      | inl same ↦ elim rest [
        | inl later ↦
            let first_is : nat_cmp x y ≡ Equal = sym (nat_cmp_is x y Equal same) in
            inl (ap (λ o. ordering_then o (slice_cmp nat_cmp xs ys)) first_is ∙ later)
        | inr equal ↦ inr (ap (λ n. n ∷ xs) same ∙ ap (λ l. y ∷ l) equal)
      ]
      | inr (inl less) ↦
          let first_is : nat_cmp x y ≡ Less = sym (nat_cmp_is x y Less less) in
          inl (ap (λ o. ordering_then o (slice_cmp nat_cmp xs ys)) first_is)
      | inr (inr more) ↦ absurd (omega arith)
    ]

-- a vector that another is over comes before it
pub before_over : (v w : Counts) → IsOver v w → vector_cmp w v ≡ Less
unfolding vector_cmp
before_over v w over =
    elim (lists_after (in_order w) (in_order v) refl (λ k. over.covers.each (suc k))) [
      | inl less ↦ less
      | inr same ↦ absurd (over.differ (ap (λ counts. vector_of (count_in counts)) (sym same)))
    ]
