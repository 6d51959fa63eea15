-- The search for an identifier in a list whose identifiers rise.
use Rattle.std.proofs.Common.{◌≡◌, ◌≢◌, ℕ, ◌<◌, ◌≤◌, Bool, true, false, List, length, get_or, Some, slice_get, ◌∙◌, refl, sym, ap, arith, inl, inr, eqb, ◌&&◌}
use Rattle.std.specs.List.Sorted.{IsPartitionedBy}
use Rattle.std.specs.Ordering.{is_lt}
use Rattle.std.specs.declared.cmp.Ordering.{Ordering}
use Rattle.std.specs.declared.cmp.Ordering.TheVariants.{Less, Equal, Greater}
use Rattle.std.proofs.lemmas.Bool.{cases_lt, eq-eqb, and_from, both_ways}
use Rattle.std.proofs.lemmas.Option.{get_or_from_slice_get}
use Rattle.ficus_persistent.specs.Cut.{IsCutAt}
use Rattle.ficus_ids.specs.declared.id.Id.{Id}
use Rattle.ficus_ids.specs.Id.{id_cmp}
use Rattle.ficus_ids.specs.IdLaws.{id_cmp_total, id_cmp-Equal, id_cmp-flip_back}
use Rattle.ficus_ids.specs.Rising.{IsRisingBy, IsPlaceBy, IsFoundAtBy}

less_from_lt : (o : Ordering) → is_lt o ≡ true → o ≡ Less
less_from_lt Less is = refl
less_from_lt Equal is = cc
less_from_lt Greater is = cc

module _ {X : Type 0} (id_of : X → Id) (items : List X) (id : Id) where
  abbrev before_id : X → Bool
  before_id item = is_lt (id_cmp (id_of item) id)

  pub ids_parted : IsRisingBy id_of items → IsPartitionedBy before_id items
  ids_parted rising i j d before within passes =
      let below : id_cmp (id_of (get_or items j d)) id ≡ Less = less_from_lt (id_cmp (id_of (get_or items j d)) id) passes in
      elim (cases_lt i j) [
        | inl front ↦ ap is_lt (id_cmp_total.trans (id_of (get_or items i d)) (id_of (get_or items j d)) id (rising.each i j d front within) below)
        | inr back ↦ let same : i ≡ j = omega arith in rw same passes
      ]

  not_below : (item : X) → before_id item ≡ false → id_of item ≢ id → id_cmp id (id_of item) ≡ Less
  not_below item fails other = by_order (id_cmp (id_of item) id) refl
    where
      by_order : (o : Ordering) → id_cmp (id_of item) id ≡ o → id_cmp id (id_of item) ≡ Less
      by_order Less is = let now : is_lt (id_cmp (id_of item) id) ≡ true = ap is_lt is in cc (now, fails)
      by_order Equal is = absurd (other (id_cmp-Equal (id_of item) id is))
      by_order Greater is = id_cmp-flip_back (id_of item) id is

  pub place_by_cut : (index : ℕ) → IsRisingBy id_of items → IsCutAt before_id items index → index ≤ length items →
      ((d : X) → index < length items → id_of (get_or items index d) ≢ id) → IsPlaceBy id_of items id index
  place_by_cut index rising cut within other =
      let above_it : (k : ℕ) (d : X) → index ≤ k → k < length items → id_cmp id (id_of (get_or items k d)) ≡ Less =
      λ k d from to.
      let next : id_cmp id (id_of (get_or items index d)) ≡ Less = not_below (get_or items index d) (cut.1 index d (omega arith) (omega arith))
      (other d (omega arith)) in
      elim (cases_lt index k) [
        | inl past ↦ id_cmp_total.trans id (id_of (get_or items index d)) (id_of (get_or items k d)) next (rising.each index k d past to)
        | inr here ↦ let same : k ≡ index = omega arith in rw same next
      ] in
      record {
        within = within;
        above = λ k d from to. less_from_lt (id_cmp (id_of (get_or items k d)) id) (cut.0 k d from to);
        below = above_it;
      }

  pub found_here : (index : ℕ) (item : X) → index < length items → slice_get items index ≡ Some item →
      id_of item ≡ id → IsFoundAtBy id_of items id index
  found_here index item within at has_id = (within, λ d. rw (get_or_from_slice_get items index item d at) has_id)

  pub differs_here : (index : ℕ) (item d : X) → slice_get items index ≡ Some item →
      (eqb (id_of item).replica id.replica && eqb (id_of item).number id.number) ≡ false →
      id_of (get_or items index d) ≢ id
  differs_here index item d at fails same =
      let is : (id_of item) ≡ id = ap id_of (sym (get_or_from_slice_get items index item d at)) ∙ same in
      let replica = eq-eqb (id_of item).replica id.replica (ap (λ (i : Id). i.replica) is) in
      let number = eq-eqb (id_of item).number id.number (ap (λ (i : Id). i.number) is) in
      both_ways (eqb (id_of item).replica id.replica && eqb (id_of item).number id.number) fails
      (and_from (eqb (id_of item).replica id.replica) (eqb (id_of item).number id.number) replica number)
