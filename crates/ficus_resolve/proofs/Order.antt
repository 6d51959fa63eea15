-- What a sort and a `dedup` leave of references to texts.
use Rattle.std.specs.Prelude.{◌≡◌, ◌↔◌, ◌<◌, ℕ, true, Bool, List, length, AllPairs, Contains}
use Rattle.std.specs.Borrow.{Bor}
use Rattle.std.specs.Cmp.{IsTotalOrder}
use Rattle.std.specs.Cmp.Lexicographic.{slice_cmp, pointwise}
use Rattle.std.specs.Cmp.Rules.{comparing}
use Rattle.std.specs.List.{dedup}
use Rattle.std.specs.List.Sorted.{IsPermutation, IsSorted, IsStrictlySortedBy}
use Rattle.std.specs.Ordering.{nat_cmp, eq_by_cmp, is_eq}
use Rattle.std.specs.declared.cmp.Ordering.{Ordering}
use Rattle.std.specs.declared.cmp.Ordering.TheVariants.{Less, Equal, Greater}
use Rattle.std.proofs.Common.{refl, arith, get_or, ap, sym, ◌∙◌, subst, rules, nat_eq, map}
use Rattle.std.proofs.Math.ListN.{get_or-map, length-map}
use Rattle.std.proofs.lemmas.Cmp.{on_total, nat_list_cmp_total, eq_by_cmp_equiv}
use Rattle.std.proofs.lemmas.List.Elements.{Contains-get_or}
use Rattle.std.proofs.lemmas.List.Kept.{Any-dedup, Contains-from_dedup, IsStrictlySortedBy-dedup}
use Rattle.std.proofs.lemmas.List.Sorted.{Contains-permutation, IsPermutation-sym}
use Rattle.std.proofs.lemmas.Map.Keys.{Less-from_sorted}
use Rattle.std.proofs.lemmas.Map.Lookups.{exact_bytes}
use Rattle.ficus_resolve.specs.Texts.{texts_of, IsInOrder}

-- membership through a map
pub Contains-map : {X Y : Type 0} (f : X → Y) (xs : List X) (x : X) → Contains xs x → Contains (map f xs) (f x)
Contains-map f xs x inside =
    (inside.0, omega (arith, inside.1, length-map xs f), get_or-map f xs inside.0 x ∙ ap f inside.2)

-- a text lies behind one of the references
pub record LiesBehind (texts : List (Bor (List ℕ))) (text : List ℕ) : Type 0 where
  pub reference : Bor (List ℕ)
  pub inside : Contains texts reference
  pub is : reference.now ≡ text

pub LiesBehind-from_map : (texts : List (Bor (List ℕ))) (text : List ℕ) → Contains (texts_of texts) text →
    LiesBehind texts text
LiesBehind-from_map texts text inside =
    let d : Bor (List ℕ) = record { ref_ptr = (0, 0); now = text } in
    let within : inside.0 < length texts = omega (arith, inside.1, length-map texts (λ t. t.now)) in
    record {
      reference = get_or texts inside.0 d;
      inside = Contains-get_or texts inside.0 d within;
      is = sym (get_or-map (λ t. t.now) texts inside.0 d) ∙ inside.2;
    }

abbrev reference_cmp : Bor (List ℕ) → Bor (List ℕ) → Ordering
reference_cmp a b = slice_cmp nat_cmp a.now b.now

reference_cmp_total : IsTotalOrder reference_cmp
reference_cmp_total = on_total (λ t. t.now) nat_list_cmp_total

abbrev same_text : Bor (List ℕ) → Bor (List ℕ) → Bool
same_text a b = pointwise nat_eq a.now b.now

ties : (a b : Bor (List ℕ)) → same_text a b ≡ eq_by_cmp reference_cmp a b
ties a b = search (comparing, rules)

equality : same_text ≡ eq_by_cmp reference_cmp
equality = λ i a b. ties a b i

tie_from_equal : (tie : Ordering) → is_eq tie ≡ true → tie ≡ Equal
tie_from_equal Less tied = cc
tie_from_equal Equal tied = refl
tie_from_equal Greater tied = cc

module _ (xs ys : List (Bor (List ℕ))) (moved : IsPermutation xs ys) where
  kept : (text : List ℕ) → Contains (texts_of (dedup same_text ys)) text → Contains (texts_of xs) text
  kept text inside =
      let behind = LiesBehind-from_map (dedup same_text ys) text inside in
      let there =
      Contains-permutation ys xs behind.reference (IsPermutation-sym xs ys moved)
      (Contains-from_dedup same_text ys behind.reference behind.inside) in
      subst (Contains (texts_of xs)) behind.is (Contains-map (λ t. t.now) xs behind.reference there)

  had : (text : List ℕ) → Contains (texts_of xs) text → Contains (texts_of (dedup (eq_by_cmp reference_cmp) ys)) text
  had text inside =
      let behind = LiesBehind-from_map xs text inside in
      let there = Contains-permutation xs ys behind.reference moved behind.inside in
      let tied = Any-dedup (eq_by_cmp_equiv reference_cmp_total) ys behind.reference there in
      let other : Bor (List ℕ) = tied.1 in
      let same : behind.reference.now ≡ other.now =
      exact_bytes behind.reference.now other.now (tie_from_equal _ tied.4) in
      subst (Contains (texts_of (dedup (eq_by_cmp reference_cmp) ys))) (sym same ∙ behind.is) (Contains-map (λ t. t.now) _ other (tied.0, tied.2, tied.3))

rising : (xs : List (Bor (List ℕ))) → IsStrictlySortedBy reference_cmp xs →
    AllPairs (λ a b. slice_cmp nat_cmp a b ≡ Less) (texts_of xs)
rising xs sorted one other d before within =
    let reference : Bor (List ℕ) = record { ref_ptr = (0, 0); now = d } in
    let less = Less-from_sorted reference_cmp xs one other reference sorted before (omega (arith, within, length-map xs (λ t. t.now))) in
    rw (get_or-map (λ t. t.now) xs one reference, get_or-map (λ t. t.now) xs other reference) less

-- what is left has the same texts, each once, in byte order
pub in_order : (xs ys : List (Bor (List ℕ))) → IsPermutation xs ys → IsSorted reference_cmp ys →
    IsInOrder (Contains (texts_of xs)) (texts_of (dedup same_text ys))
in_order xs ys moved sorted = record {
  members = λ text. (kept xs ys moved text, rw (sym equality) at (had xs ys moved text));
  rising = rising (dedup same_text ys) (IsStrictlySortedBy-dedup reference_cmp_total ties ys sorted);
}

-- the same texts are in order by any other account of which ones belong
pub IsInOrder-along : {belongs others : List ℕ → Type 0} {texts : List (List ℕ)} →
    ((text : List ℕ) → belongs text ↔ others text) → IsInOrder belongs texts → IsInOrder others texts
IsInOrder-along same ordered = record {
  members = λ text. (λ inside. (same text).0 ((ordered.members text).0 inside), λ is. (ordered.members text).1 ((same text).1 is));
  rising = ordered.rising;
}
