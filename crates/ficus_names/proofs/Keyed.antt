-- In a strictly sorted list of items with keys and targets, the items of one key stand side by side and have different
-- targets.
use Rattle.std.specs.Prelude.{◌≡◌, ℕ, ◌+◌, ◌-◌, ◌<◌, List, length}
use Rattle.std.specs.Cmp.{IsTotalOrder}
use Rattle.std.specs.declared.cmp.Ordering.{Ordering}
use Rattle.std.specs.declared.cmp.Ordering.TheVariants.{Less, Equal}
use Rattle.std.specs.List.Sorted.{IsStrictlySortedBy}
use Rattle.std.proofs.Common.{arith, get_or, sym, ap, ◌∙◌, subst, inl, inr}
use Rattle.std.proofs.lemmas.Bool.{cases_lt}
use Rattle.std.proofs.lemmas.Cmp.{tied_itself}
use Rattle.std.proofs.lemmas.Map.Keys.{Less-from_sorted}

module _ {X : Type 0} {cmp : X → X → Ordering} (order : IsTotalOrder cmp) (items : List X)
    (rising : IsStrictlySortedBy cmp items) where
  below : (one other : ℕ) (d : X) → one < other → other < length items →
      cmp (get_or items one d) (get_or items other d) ≡ Less
  below one other d before within = Less-from_sorted cmp items one other d rising before within

  -- two places have different items
  pub items_differ : (one other : ℕ) (d : X) → one < other → other < length items →
      get_or items one d ≡ get_or items other d → ⊥
  items_differ one other d before within same =
      let less = below one other d before within in
      let tie : cmp (get_or items one d) (get_or items other d) ≡ Equal =
      ap (cmp (get_or items one d)) (sym same) ∙ tied_itself order (get_or items one d) in
      cc (less, tie)

  module _ {K : Type 0} (key : X → K)
      (between : (a b c : X) → cmp a b ≡ Less → cmp b c ≡ Less → key a ≡ key c → key b ≡ key a) where
    -- the next item has the key that a later one has
    pub next_has_key : (index later : ℕ) (d : X) → index < later → later < length items →
        key (get_or items later d) ≡ key (get_or items index d) →
        key (get_or items (index + 1) d) ≡ key (get_or items index d)
    next_has_key index later d before within same =
        elim (cases_lt (index + 1) later) as (λ _. key (get_or items (index + 1) d) ≡ key (get_or items index d)) [
          | inl gap ↦ between (get_or items index d) (get_or items (index + 1) d) (get_or items later d)
              (below index (index + 1) d (omega arith) (omega arith)) (below (index + 1) later d gap within) (sym same)
          | inr beside ↦
              let here : later ≡ index + 1 = omega arith in
              subst (λ k. key (get_or items k d) ≡ key (get_or items index d)) here same
        ]

    -- the previous item has the key that an earlier one has
    pub previous_has_key : (index earlier : ℕ) (d : X) → earlier < index → index < length items →
        key (get_or items earlier d) ≡ key (get_or items index d) →
        key (get_or items (index - 1) d) ≡ key (get_or items index d)
    previous_has_key index earlier d before within same =
        elim (cases_lt earlier (index - 1)) as (λ _. key (get_or items (index - 1) d) ≡ key (get_or items index d)) [
          | inl gap ↦ between (get_or items earlier d) (get_or items (index - 1) d) (get_or items index d)
              (below earlier (index - 1) d gap (omega arith)) (below (index - 1) index d (omega arith) within) same
              ∙ same
          | inr beside ↦
              let here : earlier ≡ index - 1 = omega arith in
              subst (λ k. key (get_or items k d) ≡ key (get_or items index d)) here same
        ]
