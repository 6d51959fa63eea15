-- The edges out of one directory stand next to each other, where the directories don't fall.
use Rattle.std.specs.Prelude.{◌≡◌, ◌↔◌, ℕ, ◌+◌, ◌-◌, ◌<◌, ◌≤◌, true, false, List, length, take, drop, Contains, nat_le, Some}
use Rattle.std.specs.declared.cmp.Ordering.{Ordering}
use Rattle.std.specs.declared.cmp.Ordering.TheVariants.{Less, Equal, Greater}
use Rattle.std.specs.List.Sorted.{IsNonDecreasingBy, IsPartitionPoint}
use Rattle.std.specs.Ordering.{ordering_index, is_lt, is_le, is_some_and, nat_cmp, partial_ordering_then}
use Rattle.std.proofs.Common.{arith, refl, get_or, sym, ap, ◌∙◌, subst, inl, inr}
use Rattle.std.proofs.lemmas.Bool.{cases_lt}
use Rattle.std.proofs.lemmas.Bool.Decides.{nat_tests}
use Rattle.std.proofs.lemmas.List.{length-take, length-drop, get_or-take, get_or-drop}
use Rattle.std.proofs.lemmas.List.Sorted.{searchable_from_sorted}
use Rattle.ficus_ids.specs.declared.id.Id.{Id}
use Rattle.ficus_ids.specs.Id.{id_cmp}
use Rattle.ficus_ids.specs.IdLaws.{id_cmp_total, id_cmp-self, id_cmp-Equal, id_cmp-partial}
use Rattle.ficus_reach.specs.Edge.{IsSortedByDir}
use Rattle.ficus_reach.specs.declared.edge.Edge.{Edge}

-- where a directory stands to the one wanted: 0 below it, 1 at it, 2 above it
abbrev pub standing : Id → Edge → ℕ
standing dir edge = ordering_index (id_cmp edge.dir dir)

below_test : (answer : Ordering) → is_lt answer ≡ nat_le (ordering_index answer) 0
below_test Less = refl
below_test Equal = refl
below_test Greater = refl

within_test : (answer : Ordering) → is_le answer ≡ nat_le (ordering_index answer) 1
within_test Less = refl
within_test Equal = refl
within_test Greater = refl

-- what `<` and `<=` answer at directories
pub below_answers : (edge dir : Id) →
    is_some_and is_lt
    (partial_ordering_then (Some (nat_cmp edge.replica dir.replica)) (Some (nat_cmp edge.number dir.number))) ≡
    nat_le (ordering_index (id_cmp edge dir)) 0
below_answers edge dir = id_cmp-partial is_lt edge dir ∙ below_test (id_cmp edge dir)

pub within_answers : (edge dir : Id) →
    is_some_and is_le
    (partial_ordering_then (Some (nat_cmp edge.replica dir.replica)) (Some (nat_cmp edge.number dir.number))) ≡
    nat_le (ordering_index (id_cmp edge dir)) 1
within_answers edge dir = id_cmp-partial is_le edge dir ∙ within_test (id_cmp edge dir)

is_equal : (answer : Ordering) → ordering_index answer ≡ 1 → answer ≡ Equal
is_equal Less one = absurd (omega (arith, one))
is_equal Equal one = refl
is_equal Greater one = absurd (omega (arith, one))

-- the edges out of the directory stand at 1
pub at_dir : (dir : Id) (edge : Edge) → (standing dir edge ≡ 1) ↔ (edge.dir ≡ dir)
at_dir dir edge = (
  λ one. id_cmp-Equal edge.dir dir (is_equal (id_cmp edge.dir dir) one),
  λ same. ap ordering_index (ap (λ d. id_cmp d dir) same ∙ id_cmp-self dir),
)

pub standings_rise : (edges : List Edge) (dir : Id) → IsSortedByDir edges → IsNonDecreasingBy (standing dir) edges
standings_rise edges dir sorted = searchable_from_sorted id_cmp_total (λ edge. edge.dir) edges dir sorted

module _ {X : Type 0} (n : X → ℕ) (xs : List X) (start end : ℕ)
    (first : IsPartitionPoint (λ x. nat_le (n x) 0 ≡ true) (λ x. nat_le (n x) 0 ≡ false) xs start)
    (second : IsPartitionPoint (λ x. nat_le (n x) 1 ≡ true) (λ x. nat_le (n x) 1 ≡ false) (drop start xs) end) where
  low : (k : ℕ) (d : X) → k < start → n (get_or xs k d) ≡ 0
  low k d before = let test : nat_le (n (get_or xs k d)) 0 ≡ true = first.0 k d (omega arith) before in grind (arith, nat_tests)

  high : (k : ℕ) (d : X) → start ≤ k → k < length xs → 1 ≤ n (get_or xs k d)
  high k d from within = let test : nat_le (n (get_or xs k d)) 0 ≡ false = first.1 k d from within in grind (arith, nat_tests)

  at_most : (k : ℕ) (d : X) → k < end → n (get_or (drop start xs) k d) ≤ 1
  at_most k d before = let test : nat_le (n (get_or (drop start xs) k d)) 1 ≡ true = second.0 k d (omega arith) before in grind (arith, nat_tests)

  above : (k : ℕ) (d : X) → end ≤ k → k < length (drop start xs) → 2 ≤ n (get_or (drop start xs) k d)
  above k d from within = let test : nat_le (n (get_or (drop start xs) k d)) 1 ≡ false = second.1 k d from within in grind (arith, nat_tests)

  there : (x : X) → Contains (take end (drop start xs)) x → Contains xs x × (n x ≡ 1)
  there x (k, within, is) =
      let before : k < end = omega (arith, length-take end (drop start xs)) in
      let inside : start + k < length xs = omega (arith, length-take end (drop start xs), length-drop start xs) in
      let moved = get_or-drop start xs k x in
      let at : get_or xs (start + k) x ≡ x = sym moved ∙ sym (get_or-take end (drop start xs) k x before) ∙ is in
      ((start + k, inside, at), omega (arith, at_most k x before, high (start + k) x (omega arith) inside, ap n moved, ap n at))

  back : (x : X) → Contains xs x × (n x ≡ 1) → Contains (take end (drop start xs)) x
  back x ((k, within, is), one) =
      elim (cases_lt k start) [
        | inl early ↦ absurd (omega (arith, low k x early, ap n is))
        | inr from ↦
            let whole : start + (k - start) ≡ k = omega arith in
            let at : get_or (drop start xs) (k - start) x ≡ x = get_or-drop start xs (k - start) x ∙ ap (λ place. get_or xs place x) whole ∙ is in
            let inside : k - start < length (drop start xs) = omega (arith, length-drop start xs) in
            elim (cases_lt (k - start) end) [
              | inl before ↦ (k - start, omega (arith, length-take end (drop start xs)), get_or-take end (drop start xs) (k - start) x before ∙ at)
              | inr past ↦ absurd (omega (arith, above (k - start) x past inside, ap n at))
            ]
      ]

-- what stands between the two places is what stands at 1
pub Contains-between : {X : Type 0} (n : X → ℕ) (xs rest : List X) (start end : ℕ) → rest ≡ drop start xs →
    IsPartitionPoint (λ x. nat_le (n x) 0 ≡ true) (λ x. nat_le (n x) 0 ≡ false) xs start →
    IsPartitionPoint (λ x. nat_le (n x) 1 ≡ true) (λ x. nat_le (n x) 1 ≡ false) rest end →
    (x : X) → Contains (take end rest) x ↔ (Contains xs x × (n x ≡ 1))
Contains-between {X} n xs rest start end is_rest first second x =
    let point : IsPartitionPoint (λ y. nat_le (n y) 1 ≡ true) (λ y. nat_le (n y) 1 ≡ false) (drop start xs) end =
    subst (λ l. IsPartitionPoint (λ y. nat_le (n y) 1 ≡ true) (λ y. nat_le (n y) 1 ≡ false) l end) is_rest second in
    subst (λ l. Contains (take end l) x ↔ (Contains xs x × (n x ≡ 1))) (sym is_rest)
    (there n xs start end first point x, back n xs start end first point x)

-- the edges between the two places are those out of the directory
pub edges_between : (edges rest : List Edge) (dir : Id) (start end : ℕ) → rest ≡ drop start edges →
    IsPartitionPoint (λ l. nat_le (standing dir l) 0 ≡ true) (λ l. nat_le (standing dir l) 0 ≡ false) edges start →
    IsPartitionPoint (λ l. nat_le (standing dir l) 1 ≡ true) (λ l. nat_le (standing dir l) 1 ≡ false) rest end →
    (edge : Edge) → Contains (take end rest) edge ↔ (Contains edges edge × (edge.dir ≡ dir))
edges_between edges rest dir start end is_rest first second edge =
    let between = Contains-between (standing dir) edges rest start end is_rest first second edge in (
      λ inside. ((between.0 inside).0, (at_dir dir edge).0 (between.0 inside).1),
      λ out. between.1 (out.0, (at_dir dir edge).1 out.1),
    )
