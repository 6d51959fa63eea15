-- A rising list with one item more at its end, if any.
use Rattle.std.proofs.Common.{◌≡◌, ◌≢◌, ℕ, ◌<◌, ◌-◌, List, [], ◌∷◌, ◌++◌, length, map, get_or, Option, Some, None, Contains, Less, sym, subst, ◌∙◌, ap, inl, inr, refl, arith}
use Rattle.std.proofs.lemmas.Bool.{cases_lt}
use Rattle.std.proofs.lemmas.List.{append-nil, length_push, get_or_append_left, get_or-append_right}
use Rattle.std.proofs.lemmas.List.Edits.{insert_end}
use Rattle.std.proofs.lemmas.List.Elements.{All-contains, Contains-append_left, Contains-push, Contains-push_cases, Contains-get_or}
use Rattle.ficus_ids.specs.declared.id.Id.{Id}
use Rattle.ficus_ids.specs.Id.{id_cmp}
use Rattle.std.specs.Prelude.{All}
use Rattle.std.specs.List.{insert}
use Rattle.ficus_ids.specs.ListLaws.{into_map}
use Rattle.ficus_ids.specs.Rising.{IsRisingBy, HoldsBy, HoldsUnderBy}
use Rattle.ficus_ids.specs.RisingLaws.{one_held}
use Rattle.ficus_table.specs.SideBySide.{as_list}
use Rattle.ficus_table.specs.Made.{HasId}

module _ {S : Type 0} (id_of : S → Id) where
  -- the item stands under the identifier, and under others what stood there
  pub record IsGrown (old : List S) (id : Id) (more : Option S) : Type 0 where
    pub under : (found : Option S) → HoldsUnderBy id_of (old ++ as_list more) id found → found ≡ more
    pub others : (other : Id) → other ≢ id → (found : Option S) → HoldsUnderBy id_of (old ++ as_list more) other found →
        HoldsUnderBy id_of old other found
    pub rising : IsRisingBy id_of (old ++ as_list more)

  pub rising_push : (xs : List S) (y : S) → IsRisingBy id_of xs →
      ((x : S) → Contains xs x → id_cmp (id_of x) (id_of y) ≡ Less) → IsRisingBy id_of (xs ++ y ∷ [])
  rising_push xs y rising below = record {
    each = λ i j d before within.
        let front : i < length xs = omega (arith, length_push xs y) in
        let at_i = get_or_append_left xs (y ∷ []) d i front in
        elim (cases_lt j (length xs)) [
          | inl inside ↦ rw (at_i, get_or_append_left xs (y ∷ []) d j inside) (rising.each i j d before inside)
          | inr last ↦
              let here : j ≡ length xs = omega (arith, length_push xs y) in
              let at_j : get_or (xs ++ y ∷ []) j d ≡ y =
              get_or-append_right xs (y ∷ []) (length xs) j d refl last ∙ ap (λ k. get_or (y ∷ []) k d) (past here) in
              rw (at_i, at_j) (below (get_or xs i d) (Contains-get_or xs i d front))
        ];
  }
    where
      past : {j n : ℕ} → j ≡ n → j - n ≡ 0
      past is = omega (arith, is)

  -- one item more changes nothing under another identifier
  pub before_push : (old : List S) (item : S) (id : Id) → id ≢ id_of item → (found : Option S) →
      HoldsUnderBy id_of (old ++ item ∷ []) id found → HoldsUnderBy id_of old id found
  before_push old item id differs None held =
      λ was. held (record {
        item = was.item;
        inside = Contains-append_left old (item ∷ []) was.item was.inside;
        has_id = was.has_id;
      })
  before_push old item id differs (Some one) held =
      elim (Contains-push_cases old item one held.0) [
        | inl inside ↦ (inside, held.1)
        | inr is ↦ absurd (differs (sym held.1 ∙ ap id_of (sym is)))
      ]

  module _ (old : List S) (id : Id) (rising : IsRisingBy id_of old)
      (below : (x : S) → Contains old x → id_cmp (id_of x) id ≡ Less) (free : HoldsBy id_of old id → ⊥) where
    nothing_more : IsGrown old id None
    nothing_more = record {
      under = λ found held. not_held found (subst (λ l. HoldsUnderBy id_of l id found) (append-nil old) held);
      others = λ other differs found held. subst (λ l. HoldsUnderBy id_of l other found) (append-nil old) held;
      rising = subst (IsRisingBy id_of) (sym (append-nil old)) rising;
    }
      where
        not_held : (found : Option S) → HoldsUnderBy id_of old id found → found ≡ None
        not_held None held = refl
        not_held (Some item) held = absurd (free (record { item = item; inside = held.0; has_id = held.1 }))

    one_more : (item : S) → id_of item ≡ id → IsGrown old id (Some item)
    one_more item has = record {
      under = λ found held. one_held id_of (old ++ item ∷ []) id found (Some item) rises held
          (Contains-push old item, has);
      others = λ other differs found held. before_push old item other (λ is. differs (is ∙ has)) found held;
      rising = rises;
    }
      where
        rises : IsRisingBy id_of (old ++ item ∷ [])
        rises = rising_push old item rising (λ x inside. rw has (below x inside))

    pub grows : (more : Option S) → HasId id_of id more → IsGrown old id more
    grows None has = nothing_more
    grows (Some item) has = one_more item has

-- rows with one more behind them, whose identifier is above theirs
pub rising_appended : {R S : Type 0} (id_of : S → Id) (seen : R → S) (list more : List R) (row : R) →
    IsRisingBy (λ r. id_of (seen r)) list →
    All (λ item. id_cmp (id_of item) (id_of (seen row)) ≡ Less) (map seen list) → more ≡ insert list (length list) row →
    IsRisingBy (λ r. id_of (seen r)) more
rising_appended id_of seen list more row rising below is =
    rw (is, insert_end list row) (rising_push (λ r. id_of (seen r)) list row rising
    (λ x inside. All-contains (λ item. id_cmp (id_of item) (id_of (seen row)) ≡ Less) (map seen list) (seen x) below
    (into_map seen list x inside)))
