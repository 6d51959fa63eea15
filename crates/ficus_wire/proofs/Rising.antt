-- Pairs by rising numbers: how many there are, which are found, and one more.
use Rattle.std.proofs.Common.{◌≡◌, ℕ, ◌+◌, ◌<◌, ◌≤◌, List, [], ◌∷◌, length, map, refl, sym, ap, subst, ◌∙◌, inl, inr, arith}
use Rattle.std.specs.Prelude.{◌≢◌, false, cond, Option, Some, None, IsSome}
use Rattle.std.specs.BTreeMap.{insert_entry, is_at}
use Rattle.std.specs.Cmp.{nat_cmp_is}
use Rattle.std.specs.Map.{lookup}
use Rattle.std.specs.Ordering.{is_eq, nat_cmp}
use Rattle.std.specs.declared.cmp.Ordering.TheVariants.{Less, Equal, Greater}
use Rattle.std.proofs.lemmas.Bool.{cases_order}
use Rattle.ficus_wire.specs.Parts.{RisesFrom}

less : (x y : ℕ) → x < y → nat_cmp x y ≡ Less
less x y is = sym (nat_cmp_is x y Less is)

tied : (x y : ℕ) → x ≡ y → nat_cmp x y ≡ Equal
tied x y is = sym (nat_cmp_is x y Equal is)

more : (x y : ℕ) → y < x → nat_cmp x y ≡ Greater
more x y is = sym (nat_cmp_is x y Greater is)

unequal : (x y : ℕ) → x ≢ y → is_eq (nat_cmp x y) ≡ false
unequal x y apart = elim (cases_order x y) [
  | inl is ↦ absurd (apart is)
  | inr (inl is) ↦ let so = less x y is in rw so refl
  | inr (inr is) ↦ let so = more x y is in rw so refl
]

module _ {X : Type 0} where
  -- what is found by a number
  abbrev pub at : ℕ → List (ℕ × X) → Option X
  at number pairs = lookup (is_at (nat_cmp number)) pairs

  -- there are no more than there are numbers
  pub few : (least most : ℕ) (pairs : List (ℕ × X)) → least ≤ most → RisesFrom least most pairs →
      least + length pairs ≤ most
  few least most [] within rises = omega (arith, within)
  few least most (p ∷ pairs) within rises =
      let rest = few (p.0 + 1) most pairs (omega (arith, rises.1)) rises.2 in omega (arith, rest, rises.0)

  -- none is found before the first number
  before : (least most number : ℕ) (pairs : List (ℕ × X)) → RisesFrom least most pairs → number < least →
      at number pairs ≡ None
  before least most number [] rises below = refl
  before least most number (p ∷ pairs) rises below =
      let so = less number p.0 (omega (arith, below, rises.0)) in
      rw so (before (p.0 + 1) most number pairs rises.2 (omega (arith, below, rises.0)))

  behind : (number : ℕ) (p : ℕ × X) (pairs : List (ℕ × X)) → p.0 < number → at number (p ∷ pairs) ≡ at number pairs
  behind number p pairs above = let so = more number p.0 above in rw so refl

  first : (number : ℕ) (p : ℕ × X) (pairs : List (ℕ × X)) → number ≡ p.0 → at number (p ∷ pairs) ≡ Some p.1
  first number p pairs is = let so = tied number p.0 is in rw so refl

  passed : (number : ℕ) (p : ℕ × X) (pairs : List (ℕ × X)) → number ≢ p.0 → at number (p ∷ pairs) ≡ at number pairs
  passed number p pairs apart = let so = unequal number p.0 apart in rw so refl

  -- where there are as many as numbers, each is found
  pub full : (least most : ℕ) (pairs : List (ℕ × X)) → RisesFrom least most pairs → least + length pairs ≡ most →
      (number : ℕ) → least ≤ number → number < most → IsSome (at number pairs)
  full least most [] rises count number from below = absurd (omega (arith, count, from, below))
  full least most (p ∷ pairs) rises count number from below =
      let rest = few (p.0 + 1) most pairs (omega (arith, rises.1)) rises.2 in
      elim (cases_order number p.0) [
        | inl is ↦ let so = tied number p.0 is in rw so refl
        | inr (inl is) ↦ absurd (omega (arith, is, rest, count, from))
        | inr (inr is) ↦
            subst IsSome (sym (behind number p pairs is))
            (full (p.0 + 1) most pairs rises.2 (omega (arith, rest, count, rises.0)) number (omega (arith, is)) below)
      ]

  -- where each number is found, there are as many
  pub enough : (least most : ℕ) (pairs : List (ℕ × X)) → RisesFrom least most pairs →
      ((number : ℕ) → least ≤ number → number < most → IsSome (at number pairs)) → most ≤ least + length pairs
  enough least most [] rises all = elim (cases_order least most) [
    | inl is ↦ omega (arith, is)
    | inr (inl is) ↦ let found = all least (omega arith) is in absurd cc
    | inr (inr is) ↦ omega (arith, is)
  ]
  enough least most (p ∷ pairs) rises all =
      let rest = enough (p.0 + 1) most pairs rises.2
      (λ number from below. subst IsSome (behind number p pairs (omega (arith, from)))
      (all number (omega (arith, from, rises.0)) below)) in
      elim (cases_order least p.0) [
        | inl is ↦ omega (arith, is, rest)
        | inr (inl is) ↦
            let none : at least (p ∷ pairs) ≡ None = before p.0 most least (p ∷ pairs) (omega arith, rises.1, rises.2) is in
            let found = subst IsSome none (all least (omega arith) (omega (arith, is, rises.1))) in absurd cc
        | inr (inr is) ↦ absurd (omega (arith, is, rises.0))
      ]

  module _ (number : ℕ) (x : X) where
    with_one : List (ℕ × X) → List (ℕ × X)
    with_one pairs = insert_entry nat_cmp pairs number x

    -- one more has its place among those that rise
    pub still_rises : (least most : ℕ) (pairs : List (ℕ × X)) → least ≤ number → number < most →
        RisesFrom least most pairs → RisesFrom least most (insert_entry nat_cmp pairs number x)
    still_rises least most [] from below rises = (from, below, tt)
    still_rises least most (p ∷ pairs) from below rises = elim (cases_order number p.0) [
      | inl is ↦ let so = tied number p.0 is in rw so (rises.0, rises.1, rises.2)
      | inr (inl is) ↦ let so = less number p.0 is in rw so (from, below, (omega (arith, is), rises.1, rises.2))
      | inr (inr is) ↦
          let so = more number p.0 is in
          rw so (rises.0, rises.1, still_rises (p.0 + 1) most pairs (omega (arith, is)) below rises.2)
    ]

    -- it is found, and all others as before
    pub here : (pairs : List (ℕ × X)) → at number (insert_entry nat_cmp pairs number x) ≡ Some x
    here [] = first number (number, x) [] refl
    here (p ∷ pairs) = elim (cases_order number p.0) [
      | inl is ↦ let so = tied number p.0 is in rw so (first number (p.0, x) pairs is)
      | inr (inl is) ↦ let so = less number p.0 is in rw so (first number (number, x) (p ∷ pairs) refl)
      | inr (inr is) ↦ let so = more number p.0 is in rw so (behind number p (insert_entry nat_cmp pairs number x) is ∙ here pairs)
    ]

    pub elsewhere : (other : ℕ) (pairs : List (ℕ × X)) → other ≢ number →
        at other (insert_entry nat_cmp pairs number x) ≡ at other pairs
    elsewhere other [] apart = passed other (number, x) [] apart
    elsewhere other (p ∷ pairs) apart = elim (cases_order number p.0) [
      | inl is ↦
          let so = tied number p.0 is in
          let no : other ≢ p.0 = λ same. apart (same ∙ sym is) in
          rw so (passed other (p.0, x) pairs no ∙ sym (passed other p pairs no))
      | inr (inl is) ↦ let so = less number p.0 is in rw so (passed other (number, x) (p ∷ pairs) apart)
      | inr (inr is) ↦
          let so = more number p.0 is in
          rw so (ap (λ (found : Option X). cond (is_at (nat_cmp other) p.0) (Some p.1) found) (elsewhere other pairs apart))
    ]

    -- there is one more, where it wasn't found
    pub one_more : (pairs : List (ℕ × X)) → at number pairs ≡ None →
        length (insert_entry nat_cmp pairs number x) ≡ length pairs + 1
    one_more [] none = refl
    one_more (p ∷ pairs) none = elim (cases_order number p.0) [
      | inl is ↦
          let so = tied number p.0 is in
          let found : at number (p ∷ pairs) ≡ Some p.1 = rw so refl in
          absurd (cc (none, found))
      | inr (inl is) ↦ let so = less number p.0 is in rw so (omega arith)
      | inr (inr is) ↦
          let so = more number p.0 is in
          let rest = one_more pairs (sym (behind number p pairs is) ∙ none) in
          rw so (omega (arith, rest))
    ]

-- the same of what is made of each
module _ {X Y : Type 0} (made : X → Y) where
  abbrev made_of : List (ℕ × X) → List (ℕ × Y)
  made_of pairs = map (λ p. (p.0, made p.1)) pairs

  pub rises_made : (least most : ℕ) (pairs : List (ℕ × X)) → RisesFrom least most pairs →
      RisesFrom least most (made_of pairs)
  rises_made least most [] rises = tt
  rises_made least most (p ∷ pairs) rises = (rises.0, rises.1, rises_made (p.0 + 1) most pairs rises.2)

  pub inserts_made : (number : ℕ) (x : X) (pairs : List (ℕ × X)) →
      made_of (insert_entry nat_cmp pairs number x) ≡ insert_entry nat_cmp (made_of pairs) number (made x)
  inserts_made number x [] = refl
  inserts_made number x (p ∷ pairs) = elim (cases_order number p.0) [
    | inl is ↦ let so = tied number p.0 is in rw so refl
    | inr (inl is) ↦ let so = less number p.0 is in rw so refl
    | inr (inr is) ↦
        let so = more number p.0 is in
        rw so (ap (λ (rest : List (ℕ × Y)). (p.0, made p.1) ∷ rest) (inserts_made number x pairs))
  ]
