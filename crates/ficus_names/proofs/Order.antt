-- The order of listings is total, and tells different bindings apart.
use Rattle.std.specs.Prelude.{◌≡◌, ◌⊎◌, ◌&&◌, nat_eq, refl}
use Rattle.std.specs.Cmp.{IsTotalOrder}
use Rattle.std.specs.Cmp.Lexicographic.{pointwise}
use Rattle.std.specs.Cmp.Rules.{comparing}
use Rattle.std.specs.declared.cmp.Ordering.{Ordering}
use Rattle.std.specs.declared.cmp.Ordering.TheVariants.{Less, Equal, Greater}
use Rattle.std.specs.Ordering.{ordering_then, eq_by_cmp}
use Rattle.std.proofs.Common.{inl, inr, sym, ◌∙◌, ap, rules}
use Rattle.std.proofs.lemmas.Cmp.{then_total, on_total, nat_list_cmp_total, tied_itself}
use Rattle.std.proofs.lemmas.Map.Lookups.{CmpEqualImpliesEq, exact_bytes}
use Rattle.ficus_ids.specs.Id.{id_cmp}
use Rattle.ficus_ids.specs.IdLaws.{id_cmp_total, id_cmp-Equal}
use Rattle.ficus_names.specs.Binding.{binding_cmp}
use Rattle.ficus_names.specs.Clash.{clash_cmp, lead_cmp}
use Rattle.ficus_names.specs.ClashLaws.{clash_cmp_total}
use Rattle.ficus_names.specs.declared.binding.Binding.{Binding}
use Rattle.ficus_names.specs.declared.clash.Lead.{Lead}
use Rattle.ficus_names.specs.declared.clash.NameClash.{NameClash}

pub binding_cmp_total : IsTotalOrder binding_cmp
binding_cmp_total = then_total (on_total (λ b. b.name) nat_list_cmp_total) (on_total (λ b. b.target) id_cmp_total)

both_equal : (one other : Ordering) → ordering_then one other ≡ Equal → (one ≡ Equal) × (other ≡ Equal)
both_equal Less other e = cc
both_equal Equal other e = (refl, e)
both_equal Greater other e = cc

pub binding_cmp-Equal : (a b : Binding) → binding_cmp a b ≡ Equal → a ≡ b
binding_cmp-Equal a b e =
    let parts = both_equal _ _ e in
    let name : a.name ≡ b.name = exact_bytes a.name b.name parts.0 in
    let target : a.target ≡ b.target = id_cmp-Equal a.target b.target parts.1 in
    λ i. record { name = name i; target = target i }

-- two bindings are equal where the order doesn't tell them apart
ties : (a b : Binding) →
    (pointwise nat_eq a.name b.name &&
    (nat_eq a.target.replica b.target.replica && nat_eq a.target.number b.target.number)) ≡
    eq_by_cmp binding_cmp a b
unfolding id_cmp
ties a b = search (comparing, rules)

pub equality : (λ (a : Binding) (b : Binding). pointwise nat_eq a.name b.name &&
    (nat_eq a.target.replica b.target.replica && nat_eq a.target.number b.target.number)) ≡ eq_by_cmp binding_cmp
equality = λ i a b. ties a b i

first_not_greater : (one other : Ordering) → ordering_then one other ≡ Less → (one ≡ Less) ⊎ (one ≡ Equal)
first_not_greater Less other e = inl refl
first_not_greater Equal other e = inr refl
first_not_greater Greater other e = cc

-- what stands between two items of one key has that key too
module _ {K : Type 0} {cmp : K → K → Ordering} (order : IsTotalOrder cmp) (exact : CmpEqualImpliesEq cmp) where
  pub same_key_between : (a b c : K) (rest more : Ordering) → ordering_then (cmp a b) rest ≡ Less →
      ordering_then (cmp b c) more ≡ Less → a ≡ c → b ≡ a
  same_key_between a b c rest more below above same =
      elim (first_not_greater (cmp a b) rest below) [
        | inr tie ↦ sym (exact a b tie)
        | inl less ↦
            elim (first_not_greater (cmp b c) more above) [
              | inr tie ↦ exact b c tie ∙ sym same
              | inl greater ↦
                  let back : cmp b a ≡ Less = ap (cmp b) same ∙ greater in
                  cc (order.trans a b a less back, tied_itself order a)
            ]
      ]

pub same_name_between : (a b c : Binding) → binding_cmp a b ≡ Less → binding_cmp b c ≡ Less →
    a.name ≡ c.name → b.name ≡ a.name
same_name_between a b c below above same =
    same_key_between nat_list_cmp_total exact_bytes a.name b.name c.name (id_cmp a.target b.target)
    (id_cmp b.target c.target) below above same

pub clash_cmp-Equal : (a b : NameClash) → clash_cmp a b ≡ Equal → a ≡ b
clash_cmp-Equal a b e =
    let parts = both_equal _ _ e in
    let dir : a.dir ≡ b.dir = id_cmp-Equal a.dir b.dir parts.0 in
    let name : a.name ≡ b.name = exact_bytes a.name b.name parts.1 in
    λ i. record { dir = dir i; name = name i }

pub lead_cmp_total : IsTotalOrder lead_cmp
lead_cmp_total = then_total (on_total (λ lead. lead.place) clash_cmp_total) (on_total (λ lead. lead.target) id_cmp_total)

pub lead_cmp-Equal : (a b : Lead) → lead_cmp a b ≡ Equal → a ≡ b
lead_cmp-Equal a b e =
    let parts = both_equal _ _ e in
    let place : a.place ≡ b.place = clash_cmp-Equal a.place b.place parts.0 in
    let target : a.target ≡ b.target = id_cmp-Equal a.target b.target parts.1 in
    λ i. record { place = place i; target = target i }

pub same_place_between : (a b c : Lead) → lead_cmp a b ≡ Less → lead_cmp b c ≡ Less → a.place ≡ c.place →
    b.place ≡ a.place
same_place_between a b c below above same =
    same_key_between clash_cmp_total clash_cmp-Equal a.place b.place c.place (id_cmp a.target b.target)
    (id_cmp b.target c.target) below above same
