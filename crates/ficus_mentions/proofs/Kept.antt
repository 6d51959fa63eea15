-- Identifiers of a list's items that are kept in order.
use Rattle.std.proofs.Common.{◌≡◌, ◌↔◌, ◌⊎◌, ℕ, ◌+◌, ◌<◌, ◌≤◌, List, [], ◌∷◌, ◌++◌, length, get_or, slice_get, take, Some, refl, sym, ap, subst, ◌∙◌, inl, inr, arith}
use Rattle.std.specs.Prelude.{Contains}
use Rattle.std.specs.declared.cmp.Ordering.TheVariants.{Less}
use Rattle.std.proofs.lemmas.List.{take_all, take_more, get_or-take, length-take}
use Rattle.std.proofs.lemmas.List.Elements.{Contains-append_cases, Contains-append_left, Contains-append_right, Contains-get_or}
use Rattle.std.proofs.lemmas.List.Quantifiers.{all_pairs_push}
use Rattle.std.proofs.lemmas.Option.{slice_get_within, get_or_from_slice_get}
use Rattle.ficus_ids.specs.Id.{id_cmp}
use Rattle.ficus_ids.specs.ListLaws.{here, here_or_there, not_inside_none}
use Rattle.ficus_ids.specs.Rising.{IsRisingBy, HoldsBy}
use Rattle.ficus_ids.specs.declared.id.Id.{Id}

-- the items in front of the next place
pub take_next : {X : Type 0} (items : List X) (index : ℕ) (item : X) → slice_get items index ≡ Some item →
    take (index + 1) items ≡ take index items ++ item ∷ []
take_next items index item at =
    take_more items index item (slice_get_within items index item at)
    ∙ ap (λ last. take index items ++ last ∷ []) (get_or_from_slice_get items index item item at)

-- the one item of a list of one
only_one : {X : Type 0} (x y : X) → Contains (x ∷ []) y → y ≡ x
only_one x y inside = go (here_or_there x y [] inside)
  where
    go : (y ≡ x) ⊎ Contains [] y → y ≡ x
    go (inl is) = is
    go (inr none) = absurd (not_inside_none y none)

-- The items are gone through in order. The identifiers kept so far are those of items before an index that are to be
-- kept, and they rise.
pub record AreKeptSoFar {X : Type 0} (id_of : X → Id) (IsKept : Id → Type 0) (items : List X) (index : ℕ)
    (kept : List Id) : Type 0 where
  pub exact : (id : Id) → Contains kept id ↔ (HoldsBy id_of (take index items) id × IsKept id)
  pub rising : IsRisingBy (λ (id : Id). id) kept

module _ {X : Type 0} (id_of : X → Id) (IsKept : Id → Type 0) (items : List X) where
  pub none_kept : AreKeptSoFar id_of IsKept items 0 []
  none_kept = record {
    exact = λ id. (
      λ inside. absurd (not_inside_none id inside),
      λ is. absurd (not_inside_none is.0.item is.0.inside),
    );
    rising = record { each = λ i j d before within. absurd (omega arith) };
  }

  pub all_kept : (index : ℕ) (kept : List Id) → length items ≤ index →
      AreKeptSoFar id_of IsKept items index kept → (id : Id) →
      Contains kept id ↔ (HoldsBy id_of items id × IsKept id)
  all_kept index kept past so id =
      subst (λ whole. Contains kept id ↔ (HoldsBy id_of whole id × IsKept id)) (take_all index items past) (so.exact id)

  module _ (index : ℕ) (item : X) (rising : IsRisingBy id_of items) (at : slice_get items index ≡ Some item) where
    next : take (index + 1) items ≡ take index items ++ item ∷ []
    next = take_next items index item at

    -- what is held before the next index is held before this one, or is this item's
    held_next : (id : Id) → HoldsBy id_of (take (index + 1) items) id →
        HoldsBy id_of (take index items) id ⊎ (id ≡ id_of item)
    held_next id held = go
        (Contains-append_cases (take index items) (item ∷ []) held.item
        (subst (λ l. Contains l held.item) next held.inside))
      where
        go : Contains (take index items) held.item ⊎ Contains (item ∷ []) held.item →
            HoldsBy id_of (take index items) id ⊎ (id ≡ id_of item)
        go (inl before) = inl (record { item = held.item; inside = before; has_id = held.has_id })
        go (inr last) = inr (sym held.has_id ∙ ap id_of (only_one item held.item last))

    held_later : (id : Id) → HoldsBy id_of (take index items) id → HoldsBy id_of (take (index + 1) items) id
    held_later id held = record {
      item = held.item;
      inside = subst (λ l. Contains l held.item) (sym next)
          (Contains-append_left (take index items) (item ∷ []) held.item held.inside);
      has_id = held.has_id;
    }

    held_now : HoldsBy id_of (take (index + 1) items) (id_of item)
    held_now = record {
      item = item;
      inside = subst (λ l. Contains l item) (sym next)
          (Contains-append_right (take index items) (item ∷ []) item (here item []));
      has_id = refl;
    }

    -- the identifiers before an index are below the one at it
    below : (id : Id) → HoldsBy id_of (take index items) id → id_cmp id (id_of item) ≡ Less
    below id held =
        let i = held.inside.0 in
        let short : i < index = omega (arith, length-take index items, held.inside.1) in
        let is : get_or items i held.item ≡ held.item =
        sym (get_or-take index items i held.item short) ∙ held.inside.2 in
        let within = slice_get_within items index item at in
        let last : get_or items index held.item ≡ item = get_or_from_slice_get items index item held.item at in
        let less : id_cmp (id_of (get_or items i held.item)) (id_of (get_or items index held.item)) ≡ Less =
        rising.each i index held.item short within in
        subst (λ a. id_cmp a (id_of item) ≡ Less) held.has_id
        (subst (λ (b : X). id_cmp (id_of held.item) (id_of b) ≡ Less) last
        (subst (λ (a : X). id_cmp (id_of a) (id_of (get_or items index held.item)) ≡ Less) is less))

    pub none_more : (kept : List Id) → (IsKept (id_of item) → ⊥) → AreKeptSoFar id_of IsKept items index kept →
        AreKeptSoFar id_of IsKept items (index + 1) kept
    none_more kept not so = record {
      exact = λ id. (
        λ inside. let is = (so.exact id).0 inside in (held_later id is.0, is.1),
        λ is. go id is (held_next id is.0),
      );
      rising = so.rising;
    }
      where
        go : (id : Id) → HoldsBy id_of (take (index + 1) items) id × IsKept id →
            HoldsBy id_of (take index items) id ⊎ (id ≡ id_of item) → Contains kept id
        go id is (inl before) = (so.exact id).1 (before, is.1)
        go id is (inr same) = absurd (not (subst IsKept same is.1))

    pub one_more : (kept : List Id) → IsKept (id_of item) → AreKeptSoFar id_of IsKept items index kept →
        AreKeptSoFar id_of IsKept items (index + 1) (kept ++ id_of item ∷ [])
    one_more kept now so = record {
      exact = λ id. (
        λ inside. out id (Contains-append_cases kept (id_of item ∷ []) id inside),
        λ is. into id is (held_next id is.0),
      );
      rising = record {
        each = all_pairs_push (λ a b. id_cmp a b ≡ Less) kept (id_of item) so.rising.each
            (λ k d within. below (get_or kept k d)
            ((so.exact (get_or kept k d)).0 (Contains-get_or kept k d within)).0);
      };
    }
      where
        out : (id : Id) → Contains kept id ⊎ Contains (id_of item ∷ []) id →
            HoldsBy id_of (take (index + 1) items) id × IsKept id
        out id (inl before) = let is = (so.exact id).0 before in (held_later id is.0, is.1)
        out id (inr last) =
            let same = only_one (id_of item) id last in
            (subst (HoldsBy id_of (take (index + 1) items)) (sym same) held_now, subst IsKept (sym same) now)

        into : (id : Id) → HoldsBy id_of (take (index + 1) items) id × IsKept id →
            HoldsBy id_of (take index items) id ⊎ (id ≡ id_of item) → Contains (kept ++ id_of item ∷ []) id
        into id is (inl before) = Contains-append_left kept (id_of item ∷ []) id ((so.exact id).1 (before, is.1))
        into id is (inr same) =
            subst (Contains (kept ++ id_of item ∷ [])) (sym same)
            (Contains-append_right kept (id_of item ∷ []) (id_of item) (here (id_of item) []))
