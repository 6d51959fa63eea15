-- What `dedup` leaves of a sorted list, at any total order that tells different items apart; for the proofs of this
-- crate and of those above it.
use Rattle.std.specs.Prelude.{◌↔◌, List, Contains}
use Rattle.std.specs.declared.cmp.Ordering.{Ordering}
use Rattle.std.specs.Cmp.{IsTotalOrder}
use Rattle.std.specs.List.{dedup}
use Rattle.std.specs.List.Sorted.{IsPermutation, IsSorted, IsStrictlySortedBy}
use Rattle.std.specs.Ordering.{eq_by_cmp}
use Rattle.std.proofs.Common.{refl}
use Rattle.std.proofs.lemmas.Cmp.{eq_by_cmp_equiv}
use Rattle.std.proofs.lemmas.List.Kept.{Contains-dedup, Contains-from_dedup, IsStrictlySortedBy-dedup}
use Rattle.std.proofs.lemmas.List.Sorted.{Contains-permutation, IsPermutation-sym}
use Rattle.std.proofs.lemmas.Map.Lookups.{CmpEqualImpliesEq}
use Rattle.std.proofs.lemmas.Map.Views.{tells_apart}

module _ {X : Type 0} {cmp : X → X → Ordering} (order : IsTotalOrder cmp) where
  -- each item once, in order
  pub rising_after : (ys : List X) → IsSorted cmp ys → IsStrictlySortedBy cmp (dedup (eq_by_cmp cmp) ys)
  rising_after ys sorted = IsStrictlySortedBy-dedup order (λ _ _. refl) ys sorted

  -- and the items are those that there were
  pub same_items : (exact : CmpEqualImpliesEq cmp) (xs ys : List X) → IsPermutation xs ys → (x : X) →
      Contains (dedup (eq_by_cmp cmp) ys) x ↔ Contains xs x
  same_items exact xs ys moved x = (
    λ kept. Contains-permutation ys xs x (IsPermutation-sym xs ys moved)
        (Contains-from_dedup (eq_by_cmp cmp) ys x kept),
    λ had. Contains-dedup (eq_by_cmp_equiv order)
        (tells_apart exact) ys x (Contains-permutation xs ys x moved had),
  )
