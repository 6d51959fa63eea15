-- What a walk along the entries finds of those that are as is asked, one entry further.
use Rattle.std.proofs.Common.{◌≡◌, ◌↔◌, ℕ, ◌+◌, ◌<◌, List, [], ◌∷◌, ◌++◌, get_or, slice_get, Some, take, ◌∙◌, sym, ap, subst, arith, inl, inr}
use Rattle.std.specs.Prelude.{Contains}
use Rattle.std.specs.declared.cmp.Ordering.TheVariants.{Less}
use Rattle.std.proofs.lemmas.List.{take_more, length-take, get_or-take}
use Rattle.std.proofs.lemmas.List.Elements.{Contains-append_left, Contains-push, Contains-push_cases}
use Rattle.std.proofs.lemmas.Option.{get_or_from_slice_get, slice_get_within}
use Rattle.ficus_ids.specs.declared.id.Id.{Id}
use Rattle.ficus_ids.specs.Id.{id_cmp}
use Rattle.ficus_ids.specs.Rising.{IsRisingBy}
use Rattle.ficus_table.proofs.Grown.{rising_push}
use Rattle.ficus_entry.specs.declared.entry.Entry.{Entry}
use Rattle.ficus_entry.specs.Entry.{IsRising}
use Rattle.ficus_entry.specs.Inside.{HoldsSuch}

module _ (is_so : Entry → Type 0) (entries : List Entry) (n : ℕ) (entry : Entry) (ids : List Id)
    (at : slice_get entries n ≡ Some entry)
    (found : (id : Id) → Contains ids id ↔ HoldsSuch is_so (take n entries) id) where
  one_more : take (n + 1) entries ≡ take n entries ++ entry ∷ []
  one_more =
      take_more entries n entry (slice_get_within entries n entry at) ∙
      ap (λ e. take n entries ++ e ∷ []) (get_or_from_slice_get entries n entry entry at)

  earlier : (id : Id) → HoldsSuch is_so (take n entries) id → HoldsSuch is_so (take n entries ++ entry ∷ []) id
  earlier id lies = record {
    entry = lies.entry;
    inside = Contains-append_left (take n entries) (entry ∷ []) lies.entry lies.inside;
    so = lies.so;
    has_id = lies.has_id;
  }

  pub inside_more : is_so entry → (id : Id) →
      Contains (ids ++ entry.id ∷ []) id ↔ HoldsSuch is_so (take (n + 1) entries) id
  inside_more so_here id = rw one_more (
    λ inside. elim (Contains-push_cases ids entry.id id inside) [
      | inl old ↦ earlier id ((found id).0 old)
      | inr is ↦ record {
        entry = entry;
        inside = Contains-push (take n entries) entry;
        so = so_here;
        has_id = is;
      }
    ],
    λ lies. elim (Contains-push_cases (take n entries) entry lies.entry lies.inside) [
      | inl old ↦ Contains-append_left ids (entry.id ∷ []) id ((found id).1
          (record { entry = lies.entry; inside = old; so = lies.so; has_id = lies.has_id }))
      | inr is ↦ subst (Contains (ids ++ entry.id ∷ [])) (ap (λ (e : Entry). e.id) is ∙ lies.has_id)
          (Contains-push ids entry.id)
    ],
  )

  pub inside_same : (is_so entry → ⊥) → (id : Id) → Contains ids id ↔ HoldsSuch is_so (take (n + 1) entries) id
  inside_same never id = rw one_more (
    λ inside. earlier id ((found id).0 inside),
    λ lies. elim (Contains-push_cases (take n entries) entry lies.entry lies.inside) [
      | inl old ↦ (found id).1
          (record { entry = lies.entry; inside = old; so = lies.so; has_id = lies.has_id })
      | inr is ↦ absurd (never (subst is_so (sym is) lies.so))
    ],
  )

  all_below : IsRising entries → (id : Id) → Contains ids id → id_cmp id entry.id ≡ Less
  all_below rising id inside =
      let lies = (found id).0 inside in
      let k = lies.inside.0 in
      let before : k < n = omega (arith, lies.inside.1, length-take n entries) in
      let is : get_or entries k lies.entry ≡ lies.entry =
      sym (get_or-take n entries k lies.entry before) ∙ lies.inside.2 in
      let less = rising.each k n lies.entry before (slice_get_within entries n entry at) in
      let from_here = subst (λ (e : Entry). id_cmp e.id (get_or entries n lies.entry).id ≡ Less) is less in
      subst (λ (i : Id). id_cmp i entry.id ≡ Less) lies.has_id
      (subst (λ (e : Entry). id_cmp lies.entry.id e.id ≡ Less) (get_or_from_slice_get entries n entry lies.entry at)
      from_here)

  pub inside_rising : IsRising entries → IsRisingBy (λ (id : Id). id) ids →
      IsRisingBy (λ (id : Id). id) (ids ++ entry.id ∷ [])
  inside_rising rising ids_rise = rising_push (λ (id : Id). id) ids entry.id ids_rise (all_below rising)
