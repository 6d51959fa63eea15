-- Rows in place of those that have their identifiers.
use Rattle.std.proofs.Common.{◌≡◌, ◌≢◌, ℕ, ◌+◌, ◌<◌, List, [], ◌∷◌, ◌++◌, length, map, take, get_or, Option, Some, None, option_map, option_copied, Bor, sym, ◌∙◌, ap, subst, inl, inr, refl, arith, length-take, get_or-take}
use Rattle.std.specs.Option.{option_or}
use Rattle.std.proofs.lemmas.List.{take_more, take-map, length-map, get_or-map}
use Rattle.std.proofs.lemmas.List.Elements.{Contains-push}
use Rattle.ficus_ids.specs.declared.id.Id.{Id}
use Rattle.ficus_ids.specs.IdLaws.{same_id_or_not}
use Rattle.ficus_ids.specs.ListLaws.{not_inside_none, into_map, from_map}
use Rattle.ficus_ids.specs.Rising.{IsRisingBy, HoldsUnderBy, PutsBy, ReplacesBy}
use Rattle.ficus_ids.specs.RisingLaws.{one_held, held_or_not}
use Rattle.ficus_table.specs.Made.{IsMadeBy, HasId}
use Rattle.ficus_table.proofs.Grown.{before_push}

-- the other item, or where there is none what was there
abbrev pub Other : {S : Type 0} → Option S → Option S → Option S → Type 0
Other was other is = is ≡ option_or other was

pub other-copied : {S : Type 0} (was other : Option (Bor S)) → Other (option_copied was) (option_copied other)
    (option_copied (option_or other was))
other-copied was None = refl
other-copied was (Some other) = refl

module _ {S : Type 0} (id_of : S → Id) where
  -- all are replaced by the first others, and the identifiers rise
  pub record AreReplaced (old others new : List S) : Type 0 where
    pub so_far : ReplacesBy id_of old others new
    pub rising : IsRisingBy id_of new

  pub replaced_none : (old : List S) → IsRisingBy id_of old → AreReplaced old [] old
  replaced_none old rising = record { so_far = record { each = each }; rising = rising }
    where
      each : (id : Id) (was other is : Option S) → HoldsUnderBy id_of old id was → HoldsUnderBy id_of [] id other →
          HoldsUnderBy id_of old id is → is ≡ option_or other was
      each id was None is held none now = one_held id_of old id is was rising now held
      each id was (Some other) is held some now = absurd (not_inside_none other some.0)

  -- in place of none all others stand
  pub replaces_none : (others : List S) → IsRisingBy id_of others → ReplacesBy id_of [] others others
  replaces_none others rising = record { each = each }
    where
      same : (other is : Option S) → is ≡ other → is ≡ option_or other None
      same None is one = one
      same (Some other) is one = one

      each : (id : Id) (was other is : Option S) → HoldsUnderBy id_of [] id was → HoldsUnderBy id_of others id other →
          HoldsUnderBy id_of others id is → is ≡ option_or other was
      each id None other is none held now = same other is (one_held id_of others id is other rising now held)
      each id (Some was) other is some held now = absurd (not_inside_none was some.0)

  rising_take : (items : List S) (n : ℕ) → IsRisingBy id_of items → IsRisingBy id_of (take n items)
  rising_take items n rising = record {
    each = λ i j d before within.
        let long = length-take n items in
        rw (get_or-take n items i d (omega arith), get_or-take n items j d (omega arith))
        (rising.each i j d before (omega arith));
  }

  module _ (old done : List S) (item : S) (rising : IsRisingBy id_of (done ++ item ∷ [])) (mid new : List S)
      (so_far : AreReplaced old done mid) (puts : PutsBy id_of mid new item) (rises : IsRisingBy id_of new) where
    still : (id : Id) → id ≢ id_of item → (found : Option S) → HoldsUnderBy id_of new id found →
        HoldsUnderBy id_of mid id found
    still id differs None held = λ was. held (record {
      item = was.item;
      inside = (puts was.item).1 (inl (was.inside, λ same. differs (sym was.has_id ∙ same)));
      has_id = was.has_id;
    })
    still id differs (Some one) held =
        elim ((puts one).0 held.0) [
          | inl kept ↦ (kept.0, held.1)
          | inr is ↦ absurd (differs (sym held.1 ∙ ap id_of is))
        ]

    replaced_more : AreReplaced old (done ++ item ∷ []) new
    replaced_more = record {
      so_far = record {
        each = λ id was found is held_was held_other held_is. elim (same_id_or_not id (id_of item)) [
          | inl same ↦
              let found_is : found ≡ Some item =
              one_held id_of (done ++ item ∷ []) id found (Some item) rising held_other
              (Contains-push done item, sym same) in
              let is_item : is ≡ Some item =
              one_held id_of new id is (Some item) rises held_is ((puts item).1 (inr refl), sym same) in
              rw found_is is_item
          | inr differs ↦ so_far.so_far.each id was found is held_was
              (before_push id_of done item id differs found held_other) (still id differs is held_is)
        ];
      };
      rising = rises;
    }

  pub replaced_next : (old others : List S) (n : ℕ) (item : S) (mid new : List S) → IsRisingBy id_of others →
      n < length others → get_or others n item ≡ item → AreReplaced old (take n others) mid →
      PutsBy id_of mid new item → IsRisingBy id_of new → AreReplaced old (take (n + 1) others) new
  replaced_next old others n item mid new rising within is so_far puts rises =
      let more : take (n + 1) others ≡ take n others ++ item ∷ [] =
      take_more others n item within ∙ ap (λ e. take n others ++ e ∷ []) is in
      rw more (replaced_more old (take n others) item (rw more at (rising_take others (n + 1) rising)) mid new
      so_far puts rises)

  pub other_has_id : (was other is : Option S) → Other was other is → (id : Id) → HasId id_of id was →
      HasId id_of id other → HasId id_of id is
  other_has_id was None is one id was_has other_has = rw one was_has
  other_has_id was (Some other) is one id was_has other_has = rw one other_has

  pub made_replaces : (old others new : List S) → IsMadeBy id_of Other old others new → ReplacesBy id_of old others new
  made_replaces old others new made = record { each = made.each }

-- what the rows show is replaced with them
module _ {R S : Type 0} (id_of : S → Id) (seen : R → S) where
  abbrev row_id : R → Id
  row_id row = id_of (seen row)

  -- one row more
  pub replaced_row : (old : List S) (rows : List R) (n : ℕ) (row copy : R) (mid new : List R) →
      IsRisingBy id_of (map seen rows) → n < length rows → row ≡ get_or rows n row → copy ≡ row →
      AreReplaced id_of old (map seen (take n rows)) (map seen mid) →
      PutsBy id_of (map seen mid) (map seen new) (seen copy) → IsRisingBy id_of (map seen new) →
      AreReplaced id_of old (map seen (take (n + 1) rows)) (map seen new)
  replaced_row old rows n row copy mid new rising within at is so_far puts rises =
      rw (← take-map seen (n + 1) rows) (replaced_next id_of old (map seen rows) n (seen row) (map seen mid)
      (map seen new) rising (rw (length-map rows seen) within)
      (get_or-map seen rows n row (seen row) within ∙ ap seen (sym at)) (rw (take-map seen n rows) so_far)
      (subst (λ r. PutsBy id_of (map seen mid) (map seen new) (seen r)) is puts) rises)

  seen_under : (rows : List R) (id : Id) (row : Option R) → HoldsUnderBy row_id rows id row →
      HoldsUnderBy id_of (map seen rows) id (option_map seen row)
  seen_under rows id None none = λ held.
      let row = from_map seen rows held.item held.inside in
      none (record { item = row.0; inside = row.1; has_id = ap id_of row.2 ∙ held.has_id })
  seen_under rows id (Some row) held = (into_map seen rows row held.0, held.1)

  seen_or : (other was : Option R) → option_map seen (option_or other was) ≡
      option_or (option_map seen other) (option_map seen was)
  seen_or None was = refl
  seen_or (Some other) was = refl

  pub replaces_seen : (old others new : List R) → IsRisingBy id_of (map seen old) → IsRisingBy id_of (map seen others) →
      IsRisingBy id_of (map seen new) → ReplacesBy row_id old others new →
      ReplacesBy id_of (map seen old) (map seen others) (map seen new)
  replaces_seen old others new old_rises others_rise new_rises replaces = record { each = each }
    where
      each : (id : Id) (was other is : Option S) → HoldsUnderBy id_of (map seen old) id was →
          HoldsUnderBy id_of (map seen others) id other → HoldsUnderBy id_of (map seen new) id is →
          is ≡ option_or other was
      each id was other is held_was held_other held_is =
          let old_row = held_or_not row_id old id in
          let other_row = held_or_not row_id others id in
          let new_row = held_or_not row_id new id in
          let was_is = one_held id_of (map seen old) id was (option_map seen old_row.0) old_rises held_was
          (seen_under old id old_row.0 old_row.1) in
          let other_is = one_held id_of (map seen others) id other (option_map seen other_row.0) others_rise held_other
          (seen_under others id other_row.0 other_row.1) in
          let new_is = one_held id_of (map seen new) id is (option_map seen new_row.0) new_rises held_is
          (seen_under new id new_row.0 new_row.1) in
          let rows = replaces.each id old_row.0 other_row.0 new_row.0 old_row.1 other_row.1 new_row.1 in
          rw (new_is, was_is, other_is) (ap (option_map seen) rows ∙ seen_or other_row.0 old_row.0)
