-- In bindings in order, a name that leads to several objects stands in neighbours.
use Rattle.std.specs.Prelude.{◌≡◌, ◌⊎◌, ◌↔◌, ℕ, ◌+◌, ◌-◌, ◌<◌, Bool, List, length, slice_get, Some, IfSome, IsTrue}
use Rattle.std.specs.List.Sorted.{IsStrictlySortedBy}
use Rattle.std.proofs.Common.{arith, get_or, sym, ap, ◌∙◌, subst, inl, inr}
use Rattle.std.proofs.lemmas.Bool.{cases_order}
use Rattle.std.proofs.lemmas.Option.{slice_get-get_or}
use Rattle.std.proofs.lemmas.List.{get_or_default}
use Rattle.std.proofs.lemmas.List.Elements.{Contains-get_or}
use Rattle.ficus_model.specs.ShownNames.{HasOther}
use Rattle.ficus_names.proofs.Keyed.{items_differ, next_has_key, previous_has_key}
use Rattle.ficus_names.proofs.Order.{binding_cmp_total, same_name_between}
use Rattle.ficus_names.specs.Binding.{Binds, binding_cmp}
use Rattle.ficus_names.specs.declared.binding.Binding.{Binding}

-- a binding of the list, whose fields are known by equations
binds_at : (bindings : List Binding) (index : ℕ) (d : Binding) → index < length bindings → (name : List ℕ) →
    (get_or bindings index d).name ≡ name → Binds bindings name (get_or bindings index d).target
binds_at bindings index d within name same =
    let here = Contains-get_or bindings index d within in
    subst (λ n. Binds bindings n (get_or bindings index d).target) same here

-- a neighbour of the binding x at the index has the name of x
abbrev pub NeighbourHasName : List Binding → ℕ → Binding → Type 0
NeighbourHasName bindings index x = ((0 < index) × ((get_or bindings (index - 1) x).name ≡ x.name)) ⊎
    ((index + 1 < length bindings) × ((get_or bindings (index + 1) x).name ≡ x.name))

module _ (bindings : List Binding) (rising : IsStrictlySortedBy binding_cmp bindings) where
  -- two places with one name lead to different objects
  targets_differ : (one other : ℕ) (d : Binding) → one < other → other < length bindings →
      (get_or bindings one d).name ≡ (get_or bindings other d).name →
      (get_or bindings one d).target ≡ (get_or bindings other d).target → ⊥
  targets_differ one other d before within name target =
      let same : get_or bindings one d ≡ get_or bindings other d = λ i. record { name = name i; target = target i } in
      items_differ binding_cmp_total bindings rising one other d before within same

  pub shared_by_next : (index : ℕ) (d : Binding) → index + 1 < length bindings →
      (get_or bindings (index + 1) d).name ≡ (get_or bindings index d).name →
      HasOther (Binds bindings) (get_or bindings index d).name (get_or bindings index d).target
  shared_by_next index d within same = record {
    other = (get_or bindings (index + 1) d).target;
    bound = binds_at bindings (index + 1) d within _ same;
    differs = λ equal. targets_differ index (index + 1) d (omega arith) within (sym same) (sym equal);
  }

  pub shared_by_previous : (index : ℕ) (d : Binding) → 0 < index → index < length bindings →
      (get_or bindings (index - 1) d).name ≡ (get_or bindings index d).name →
      HasOther (Binds bindings) (get_or bindings index d).name (get_or bindings index d).target
  shared_by_previous index d positive within same = record {
    other = (get_or bindings (index - 1) d).target;
    bound = binds_at bindings (index - 1) d (omega arith) _ same;
    differs = λ equal. targets_differ (index - 1) index d (omega arith) within same equal;
  }

  -- where the name has another object, a neighbour has the name
  pub neighbour_has_name : (index : ℕ) (d : Binding) → index < length bindings →
      HasOther (Binds bindings) (get_or bindings index d).name (get_or bindings index d).target →
      ((0 < index) × ((get_or bindings (index - 1) d).name ≡ (get_or bindings index d).name)) ⊎
      ((index + 1 < length bindings) × ((get_or bindings (index + 1) d).name ≡ (get_or bindings index d).name))
  neighbour_has_name index d within shared =
      let place = shared.bound.0 in
      let inside = shared.bound.1 in
      let found = get_or_default bindings place d _ inside ∙ shared.bound.2 in
      let named : (get_or bindings place d).name ≡ (get_or bindings index d).name = ap (λ b. b.name) found in
      let leads : (get_or bindings place d).target ≡ shared.other = ap (λ b. b.target) found in
      elim (cases_order place index) [
        | inl same ↦ absurd (shared.differs (sym leads ∙ ap (λ k. (get_or bindings k d).target) same))
        | inr apart ↦
            elim apart [
              | inl earlier ↦
                  inl (
                    omega arith,
                    previous_has_key binding_cmp_total bindings rising (λ b. b.name) same_name_between index place d
                        earlier within named,
                  )
              | inr later ↦ inr (omega arith, next_has_key binding_cmp_total bindings rising (λ b. b.name) same_name_between index place d later inside named)
            ]
      ]

  pub answers : (index : ℕ) (x : Binding) (result : Bool) → index < length bindings → x ≡ get_or bindings index x →
      (IsTrue result ↔ NeighbourHasName bindings index x) →
      IfSome (slice_get bindings index)
      (λ binding. IsTrue result ↔ HasOther (Binds bindings) binding.name binding.target)
  answers index x result within here means =
      let y : Binding = get_or bindings index x in
      let named : x.name ≡ y.name = ap (λ b. b.name) here in
      let P : Binding → Type 0 = λ b. IsTrue result ↔ HasOther (Binds bindings) b.name b.target in
      let shows : IsTrue result → HasOther (Binds bindings) y.name y.target = λ truth. elim (means.0 truth) [
        | inl before ↦ shared_by_previous index x before.0 within (before.1 ∙ named)
        | inr after ↦ shared_by_next index x after.0 (after.1 ∙ named)
      ] in
      let shown : HasOther (Binds bindings) y.name y.target → IsTrue result = λ shared. means.1
      (elim (neighbour_has_name index x within shared) as (λ _. NeighbourHasName bindings index x) [
        | inl before ↦ inl (before.0, before.1 ∙ sym named)
        | inr after ↦ inr (after.0, after.1 ∙ sym named)
      ]) in
      let at : slice_get bindings index ≡ Some y = slice_get-get_or bindings index x within in
      subst (λ o. IfSome o P) (sym at) (shows, shown)
