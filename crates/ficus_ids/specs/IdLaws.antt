-- Laws of the order of identifiers, for the proofs of this crate and of those above it.
use Rattle.std.specs.Prelude.{◌≡◌, ◌≢◌, ◌⊎◌, ℕ, ◌<◌, Bool, Some, refl}
use Rattle.std.specs.Cmp.{IsTotalOrder}
use Rattle.std.specs.declared.cmp.Ordering.{Ordering}
use Rattle.std.specs.declared.cmp.Ordering.TheVariants.{Less, Equal, Greater}
use Rattle.std.specs.Ordering.{nat_cmp, ordering_then, partial_ordering_then, is_some_and, MatchOrdering, ordering_reverse}
use Rattle.std.proofs.Common.{ap, ap₂, ◌∙◌, subst, inl, inr}
use Rattle.std.proofs.lemmas.Cmp.{then_total, on_total, nat_cmp_total, tied_itself, ranked}
use Rattle.ficus_ids.specs.declared.id.Id.{Id}
use Rattle.ficus_ids.specs.Id.{id_cmp}

pub id_cmp_total : IsTotalOrder id_cmp
unfolding id_cmp
id_cmp_total = then_total (on_total (λ id. id.replica) nat_cmp_total) (on_total (λ id. id.number) nat_cmp_total)

-- no identifier is below itself
pub id_cmp-self : (id : Id) → id_cmp id id ≡ Equal
id_cmp-self id = tied_itself id_cmp_total id

pub not_below_itself : (id : Id) → id_cmp id id ≡ Less → ⊥
not_below_itself id below = cc (below, id_cmp-self id)

pub id_cmp-flip : (a b : Id) → id_cmp a b ≡ Less → id_cmp b a ≡ Greater
id_cmp-flip a b below = id_cmp_total.antisymm b a ∙ ap ordering_reverse below

pub id_cmp-flip_back : (a b : Id) → id_cmp a b ≡ Greater → id_cmp b a ≡ Less
id_cmp-flip_back a b above = id_cmp_total.antisymm b a ∙ ap ordering_reverse above

both_Equal : (first second : Ordering) → ordering_then first second ≡ Equal → (first ≡ Equal) × (second ≡ Equal)
both_Equal Less second same = cc
both_Equal Equal second same = (refl, same)
both_Equal Greater second same = cc

nat_cmp-Equal : (x y : ℕ) → nat_cmp x y ≡ Equal → x ≡ y
nat_cmp-Equal x y same = subst (λ answer. MatchOrdering answer (x < y) (x ≡ y) (y < x)) same
    (ranked x y (nat_cmp x y) refl)

-- identifiers that the order doesn't tell apart are the same
pub id_cmp-Equal : (a b : Id) → id_cmp a b ≡ Equal → a ≡ b
unfolding id_cmp
id_cmp-Equal a b same =
    let parts = both_Equal (nat_cmp a.replica b.replica) (nat_cmp a.number b.number) same in
    let replica : a.replica ≡ b.replica = nat_cmp-Equal a.replica b.replica parts.0 in
    let number : a.number ≡ b.number = nat_cmp-Equal a.number b.number parts.1 in
    ap₂ (λ (r : ℕ) (n : ℕ). record { replica = r; number = n }) replica number

same_id_by : (a b : Id) (answer : Ordering) → id_cmp a b ≡ answer → (a ≡ b) ⊎ (a ≢ b)
same_id_by a b Less below = inr (λ same. not_below_itself b (subst (λ id. id_cmp id b ≡ Less) same below))
same_id_by a b Equal same = inl (id_cmp-Equal a b same)
same_id_by a b Greater above = inr (λ same. cc (subst (λ id. id_cmp id b ≡ Greater) same above, id_cmp-self b))

-- identifiers are the same or not
pub same_id_or_not : (a b : Id) → (a ≡ b) ⊎ (a ≢ b)
same_id_or_not a b = same_id_by a b (id_cmp a b) refl

partial_then : (test : Ordering → Bool) (first second : Ordering) →
    is_some_and test (partial_ordering_then (Some first) (Some second)) ≡ test (ordering_then first second)
partial_then test Less second = refl
partial_then test Equal second = refl
partial_then test Greater second = refl

-- what `<`, `<=`, `>` and `>=` test
pub id_cmp-partial : (test : Ordering → Bool) (a b : Id) →
    is_some_and test (partial_ordering_then (Some (nat_cmp a.replica b.replica)) (Some (nat_cmp a.number b.number))) ≡
    test (id_cmp a b)
unfolding id_cmp
id_cmp-partial test a b = partial_then test (nat_cmp a.replica b.replica) (nat_cmp a.number b.number)
