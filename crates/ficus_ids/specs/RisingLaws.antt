-- Laws of lists whose items have identifiers, for the proofs of this crate and of those above it.
use Rattle.std.specs.Prelude.{◌≡◌, ◌≢◌, ◌⊎◌, ◌↔◌, ℕ, ◌+◌, ◌-◌, ◌<◌, ◌≤◌, List, [], ◌∷◌, ◌++◌, length, take, drop, insert, get_or, Option, Some, None, Result, Ok, Err, IfOk, IfErr, IfSome, slice_get, Contains, false, refl}
use Rattle.std.specs.List.{HoldsAt}
use Rattle.std.specs.List.Sorted.{IsBinarySearchResult, IsNonDecreasingBy, IsSearchInRange}
use Rattle.std.specs.Ordering.{is_lt, is_gt, ordering_index}
use Rattle.std.specs.declared.cmp.Ordering.{Ordering}
use Rattle.std.specs.declared.cmp.Ordering.TheVariants.{Less, Equal, Greater}
use Rattle.std.proofs.Common.{zero, suc, set, arith, ap, sym, ◌∙◌, subst, inl, inr}
use Rattle.std.proofs.lemmas.Bool.{cases_order, cases_lt, cases_eq}
use Rattle.std.proofs.lemmas.List.{take-append-drop, length-set, get_or-set_same, get_or-set_other}
use Rattle.std.proofs.lemmas.List.Edits.{length-insert, get_or-insert_below, get_or-insert_at, get_or-insert_above}
use Rattle.std.proofs.lemmas.List.Elements.{Contains-get_or, Contains-append_left, Contains-append_right, Contains-append_cases}
use Rattle.std.proofs.lemmas.Option.{get_or_from_slice_get, slice_get-get_or}
use Rattle.std.proofs.lemmas.List.Sorted.{searchable_from_sorted}
use Rattle.ficus_ids.specs.declared.id.Id.{Id}
use Rattle.ficus_ids.specs.Id.{id_cmp}
use Rattle.ficus_ids.specs.IdLaws.{id_cmp_total, id_cmp-Equal, not_below_itself, id_cmp-flip, id_cmp-flip_back, same_id_or_not}
use Rattle.ficus_ids.specs.ListLaws.{here, there, here_or_there, not_inside_none, first_below, rest_rises, same_rising}
use Rattle.ficus_ids.specs.Rising.{IsRisingBy, HoldsBy, HoldsUnderBy, IsPlaceBy, IsFoundAtBy, PutsBy}

inside_parts : {X : Type 0} (xs : List X) (index : ℕ) (x : X) → Contains xs x →
    Contains (take index xs) x ⊎ Contains (drop index xs) x
inside_parts xs index x inside = Contains-append_cases (take index xs) (drop index xs) x
    (subst (λ l. Contains l x) (sym (take-append-drop index xs)) inside)

from_insert : {X : Type 0} (xs : List X) (index : ℕ) (y x : X) → Contains (insert xs index y) x →
    Contains xs x ⊎ (x ≡ y)
from_insert xs index y x inside =
    let whole : (z : _) → Contains (take index xs ++ drop index xs) z → Contains xs z =
    λ z. subst (λ l. Contains l z) (take-append-drop index xs) in
    elim (Contains-append_cases (take index xs) (y ∷ drop index xs) x inside) [
      | inl before ↦ inl (whole x (Contains-append_left (take index xs) (drop index xs) x before))
      | inr from ↦ elim (here_or_there y x (drop index xs) from) [
        | inl is ↦ inr is
        | inr behind ↦ inl (whole x (Contains-append_right (take index xs) (drop index xs) x behind))
      ]
    ]

into_insert : {X : Type 0} (xs : List X) (index : ℕ) (y x : X) → Contains xs x ⊎ (x ≡ y) →
    Contains (insert xs index y) x
into_insert xs index y x (inl inside) =
    elim (inside_parts xs index x inside) [
      | inl before ↦ Contains-append_left (take index xs) (y ∷ drop index xs) x before
      | inr behind ↦ Contains-append_right (take index xs) (y ∷ drop index xs) x (there y x (drop index xs) behind)
    ]
into_insert xs index y x (inr is) =
    subst (Contains (insert xs index y)) (sym is)
    (Contains-append_right (take index xs) (y ∷ drop index xs) y (here y (drop index xs)))

-- an insert adds one item and keeps all others
pub Contains-insert : {X : Type 0} (xs : List X) (index : ℕ) (y x : X) →
    Contains (insert xs index y) x ↔ (Contains xs x ⊎ (x ≡ y))
Contains-insert xs index y x = (from_insert xs index y x, into_insert xs index y x)

-- something stands at each place of a list
pub item_at : {X : Type 0} (xs : List X) (i : ℕ) → i < length xs → (x : X) × (get_or xs i x ≡ x)
item_at [] i within = absurd (omega arith)
item_at (x ∷ xs) zero within = (x, refl)
item_at (x ∷ xs) (suc i) within = item_at xs i (omega arith)

module _ {X : Type 0} (id_of : X → Id) where
  abbrev Below : X → X → Type 0
  Below a b = id_cmp (id_of a) (id_of b) ≡ Less

  not_first_and_later : (x : X) (xs : List X) (a b : X) → IsRisingBy id_of (x ∷ xs) → a ≡ x → Contains xs b →
      id_of a ≡ id_of b → ⊥
  not_first_and_later x xs a b rising first later same =
      let below : id_cmp (id_of x) (id_of b) ≡ Less = first_below Below x xs b rising.each later in
      let one : id_of x ≡ id_of b = sym (ap id_of first) ∙ same in
      not_below_itself (id_of b) (subst (λ id. id_cmp id (id_of b) ≡ Less) one below)

  -- two items with one identifier are one
  pub one_item : (xs : List X) (a b : X) → IsRisingBy id_of xs → Contains xs a → Contains xs b → id_of a ≡ id_of b →
      a ≡ b
  one_item [] a b rising has_a has_b same = absurd (not_inside_none a has_a)
  one_item (x ∷ xs) a b rising has_a has_b same =
      elim (here_or_there x a xs has_a) [
        | inl a_first ↦ elim (here_or_there x b xs has_b) [
          | inl b_first ↦ a_first ∙ sym b_first
          | inr b_later ↦ absurd (not_first_and_later x xs a b rising a_first b_later same)
        ]
        | inr a_later ↦ elim (here_or_there x b xs has_b) [
          | inl b_first ↦ absurd (not_first_and_later x xs b a rising b_first a_later (sym same))
          | inr b_later ↦ one_item xs a b (record { each = rest_rises Below x xs rising.each }) a_later b_later same
        ]
      ]

  -- two rising lists with the same items are the same list
  pub same_items : (xs ys : List X) → IsRisingBy id_of xs → IsRisingBy id_of ys →
      ((x : X) → Contains xs x ↔ Contains ys x) → xs ≡ ys
  same_items xs ys rising_xs rising_ys same =
      same_rising Below (λ x. not_below_itself (id_of x))
      (λ x y z. id_cmp_total.trans (id_of x) (id_of y) (id_of z)) xs ys rising_xs.each rising_ys.each
      (λ z. (same z).0) (λ z. (same z).1)

  insert_past : (xs : List X) (index : ℕ) (y d : X) → index ≤ length xs → (k : ℕ) → index < k →
      get_or (insert xs index y) k d ≡ get_or xs (k - 1) d
  insert_past xs index y d fits k past =
      let back : k - 1 + 1 ≡ k = omega arith in
      subst (λ n. get_or (insert xs index y) n d ≡ get_or xs (k - 1) d) back
      (get_or-insert_above xs index y d (k - 1) (omega arith) fits)

  rise_at : (xs : List X) (y : X) (index : ℕ) → IsRisingBy id_of xs → IsPlaceBy id_of xs (id_of y) index →
      (i j : ℕ) (d : X) → i < j → j < length xs + 1 →
      id_cmp (id_of (get_or (insert xs index y) i d)) (id_of (get_or (insert xs index y) j d)) ≡ Less
  rise_at xs y index rising place i j d before within =
      let fits = place.within in
      let place_i = cases_order i index in
      let place_j = cases_order j index in
      grind (
        arith,
        get_or-insert_below xs index y d,
        get_or-insert_at xs index y d fits,
        insert_past xs index y d fits,
        rising.each i j d,
        rising.each i (j - 1) d,
        rising.each (i - 1) (j - 1) d,
        place.above i d,
        place.below (j - 1) d,
      )

  -- a list with one more item at its place still rises
  pub IsRisingBy-insert : (xs : List X) (y : X) (index : ℕ) → IsRisingBy id_of xs → IsPlaceBy id_of xs (id_of y) index →
      IsRisingBy id_of (insert xs index y)
  IsRisingBy-insert xs y index rising place =
      record {
        each = λ i j d before within. rise_at xs y index rising place i j d before
            (omega (arith, length-insert xs index y place.within));
      }

  -- what a binary search finds, and where there is no such item
  pub found_by_search : (xs : List X) (id : Id) (answer : Result ℕ ℕ) → IsSearchInRange answer (length xs) →
      IsBinarySearchResult (λ x. id_cmp (id_of x) id) xs answer →
      IfOk answer (λ index. (index < length xs) × HoldsAt (λ x. id_of x ≡ id) xs index)
  found_by_search xs id (Ok index) within found = (within, λ d. id_cmp-Equal (id_of (get_or xs index d)) id (found d))
  found_by_search xs id (Err index) within found = tt

  answers_rise : (xs : List X) (id : Id) → IsRisingBy id_of xs →
      IsNonDecreasingBy (λ x. ordering_index (id_cmp (id_of x) id)) xs
  answers_rise xs id rising =
      searchable_from_sorted id_cmp_total id_of xs id (λ k d _ more.
      ap is_lt (id_cmp-flip (id_of (get_or xs k d)) (id_of (get_or xs (k + 1) d))
      (rising.each k (k + 1) d (omega arith) more)))

  pub place_by_search : (xs : List X) (id : Id) (answer : Result ℕ ℕ) → IsRisingBy id_of xs →
      IsSearchInRange answer (length xs) → IsBinarySearchResult (λ x. id_cmp (id_of x) id) xs answer →
      IfErr answer (IsPlaceBy id_of xs id)
  place_by_search xs id (Ok index) rising within found = tt
  place_by_search xs id (Err index) rising within found =
      let parts = found (answers_rise xs id rising) in
      record {
        within = within;
        above = parts.0;
        below = λ k d from to. id_cmp-flip_back (id_of (get_or xs k d)) id (parts.1 k d from to);
      }

  -- where no item has the identifier, either answer of the search is its place
  pub place_by_either : (xs : List X) (id : Id) (answer : Result ℕ ℕ) (index : ℕ) → (HoldsBy id_of xs id → ⊥) →
      IfOk answer (λ i. (i < length xs) × HoldsAt (λ x. id_of x ≡ id) xs i) → IfErr answer (IsPlaceBy id_of xs id) →
      (answer ≡ Ok index) ⊎ (answer ≡ Err index) → IsPlaceBy id_of xs id index
  place_by_either xs id (Ok i) index none found place is =
      let item = item_at xs i found.0 in
      absurd (none (record {
        item = item.0;
        inside = (i, found.0, item.1);
        has_id = ap id_of (sym item.1) ∙ found.1 item.0;
      }))
  place_by_either xs id (Err i) index none found place (inl is) = cc
  place_by_either xs id (Err i) index none found place (inr is) =
      let same : i ≡ index = cc in
      subst (IsPlaceBy id_of xs id) same place

  last_below : (xs : List X) (id : Id) (d : X) → 0 < length xs → (HoldsBy id_of xs id → ⊥) → (order : Ordering) →
      id_cmp (id_of (get_or xs (length xs - 1) d)) id ≡ order → is_gt order ≡ false →
      id_cmp (id_of (get_or xs (length xs - 1) d)) id ≡ Less
  last_below xs id d some none Less is not_above = is
  last_below xs id d some none Equal is not_above =
      let last : X = get_or xs (length xs - 1) d in
      absurd (none (record {
        item = last;
        inside = Contains-get_or xs (length xs - 1) d (omega arith);
        has_id = id_cmp-Equal (id_of last) id is;
      }))
  last_below xs id d some none Greater is not_above = cc

  place_at_end : (xs : List X) (id : Id) → IsRisingBy id_of xs → (HoldsBy id_of xs id → ⊥) →
      ((d : X) → 0 < length xs → is_gt (id_cmp (id_of (get_or xs (length xs - 1) d)) id) ≡ false) →
      IsPlaceBy id_of xs id (length xs)
  place_at_end xs id rising none not_above =
      let at_last : (d : X) → 0 < length xs → id_cmp (id_of (get_or xs (length xs - 1) d)) id ≡ Less =
      λ d some. last_below xs id d some none _ refl (not_above d some) in
      record {
        within = omega arith;
        above = λ k d _ within. elim (cases_order k (length xs - 1)) [
          | inl is ↦ rw is (at_last d (omega arith))
          | inr (inl before) ↦ id_cmp_total.trans (id_of (get_or xs k d)) (id_of (get_or xs (length xs - 1) d)) id
              (rising.each k (length xs - 1) d before (omega arith)) (at_last d (omega arith))
          | inr (inr behind) ↦ absurd (omega arith)
        ];
        below = λ k d from to. absurd (omega arith);
      }

  -- an identifier that no item has and that isn't below the last one has its place at the end
  pub place_behind_last : (xs : List X) (id : Id) (end : ℕ) (last : Option X) → IsRisingBy id_of xs →
      (HoldsBy id_of xs id → ⊥) → end ≡ length xs → slice_get xs (length xs - 1) ≡ last →
      IfSome last (λ x. is_gt (id_cmp (id_of x) id) ≡ false) → IsPlaceBy id_of xs id end
  place_behind_last xs id end None rising none is_end is_last not_above =
      let empty : length xs ≡ 0 = elim (cases_lt 0 (length xs)) [
        | inl some ↦ cc (is_last, slice_get-get_or xs (length xs - 1) (item_at xs 0 some).0 (omega arith))
        | inr none_left ↦ omega arith
      ] in
      rw is_end (place_at_end xs id rising none (λ d some. absurd (omega arith)))
  place_behind_last xs id end (Some x) rising none is_end is_last not_above =
      rw is_end (place_at_end xs id rising none
      (λ d some. rw (get_or_from_slice_get xs (length xs - 1) x d is_last) not_above))

  -- nothing in the list has an identifier that has its place there
  pub none_at_place : (xs : List X) (id : Id) (index : ℕ) → IsPlaceBy id_of xs id index → HoldsBy id_of xs id → ⊥
  none_at_place xs id index place held =
      let k = held.inside.0 in
      let is : id_of (get_or xs k held.item) ≡ id = ap id_of held.inside.2 ∙ held.has_id in
      elim (cases_lt k index) [
        | inl before ↦ not_below_itself id
            (subst (λ z. id_cmp z id ≡ Less) is (place.above k held.item (omega arith) before))
        | inr from ↦ not_below_itself id
            (subst (λ z. id_cmp id z ≡ Less) is (place.below k held.item from held.inside.1))
      ]

  held_with : (x : X) (xs : List X) (id : Id) → id_of x ≢ id → (found : Option X) × HoldsUnderBy id_of xs id found →
      (found : Option X) × HoldsUnderBy id_of (x ∷ xs) id found
  held_with x xs id other (None, none) = (
    None,
    λ held. elim (here_or_there x held.item xs held.inside) [
      | inl is ↦ other (sym (ap id_of is) ∙ held.has_id)
      | inr later ↦ none (record { item = held.item; inside = later; has_id = held.has_id })
    ],
  )
  held_with x xs id other (Some y, held) = (Some y, (there x y xs held.0, held.1))

  -- something or nothing stands under each identifier, and only one of them
  pub held_or_not : (xs : List X) (id : Id) → (found : Option X) × HoldsUnderBy id_of xs id found
  held_or_not [] id = (None, λ held. not_inside_none held.item held.inside)
  held_or_not (x ∷ xs) id =
      elim (same_id_or_not (id_of x) id) [
        | inl has_id ↦ (Some x, (here x xs, has_id))
        | inr other ↦ held_with x xs id other (held_or_not xs id)
      ]

  pub one_held : (xs : List X) (id : Id) (a b : Option X) → IsRisingBy id_of xs → HoldsUnderBy id_of xs id a →
      HoldsUnderBy id_of xs id b → a ≡ b
  one_held xs id None None rising held_a held_b = refl
  one_held xs id None (Some b) rising held_a held_b =
      absurd (held_a (record { item = b; inside = held_b.0; has_id = held_b.1 }))
  one_held xs id (Some a) None rising held_a held_b =
      absurd (held_b (record { item = a; inside = held_a.0; has_id = held_a.1 }))
  one_held xs id (Some a) (Some b) rising held_a held_b =
      ap Some (one_item xs a b rising held_a.0 held_b.0 (held_a.1 ∙ sym held_b.1))

  -- in place of the items with its identifier an item only comes in addition, where there are none
  pub put_adds : (old new : List X) (item : X) → (HoldsBy id_of old (id_of item) → ⊥) →
      ((other : X) → Contains new other ↔ ((Contains old other × (id_of other ≢ id_of item)) ⊎ (other ≡ item))) →
      (other : X) → Contains new other ↔ (Contains old other ⊎ (other ≡ item))
  put_adds old new item none puts other = (
    λ inside. elim ((puts other).0 inside) [ inl kept ↦ inl kept.0 | inr is ↦ inr is ],
    λ either. (puts other).1 (elim either [
      | inl kept ↦ inl (kept, λ same. none (record { item = other; inside = kept; has_id = same }))
      | inr is ↦ inr is
    ]),
  )

  module _ (items : List X) (item : X) (i : ℕ) where
    same_at : IsFoundAtBy id_of items (id_of item) i → (k : ℕ) (d : X) →
        id_of (get_or (set items i item) k d) ≡ id_of (get_or items k d)
    same_at found k d =
        elim (cases_eq k i) [
          | inl here ↦ rw (here, get_or-set_same items i item d found.0) (sym (found.1 d))
          | inr elsewhere ↦ rw (get_or-set_other items i k item d elsewhere) refl
        ]

    -- a list with another item in place of the one with its identifier still rises
    pub IsRisingBy-set : IsRisingBy id_of items → IsFoundAtBy id_of items (id_of item) i →
        IsRisingBy id_of (set items i item)
    IsRisingBy-set rising found = record {
      each = λ j k d before within. rw (same_at found j d, same_at found k d)
          (rising.each j k d before (rw length-set at within));
    }

    other_id : IsRisingBy id_of items → IsFoundAtBy id_of items (id_of item) i → (k : ℕ) (d : X) → k < length items →
        (k ≡ i → ⊥) → id_of (get_or items k d) ≢ id_of item
    other_id rising found k d within elsewhere is =
        let one : id_of (get_or items k d) ≡ id_of (get_or items i d) = is ∙ sym (found.1 d) in
        elim (cases_order k i) [
          | inl here ↦ elsewhere here
          | inr (inl before) ↦ not_below_itself (id_of (get_or items i d))
              (subst (λ id. id_cmp id (id_of (get_or items i d)) ≡ Less) one (rising.each k i d before found.0))
          | inr (inr behind) ↦ not_below_itself (id_of (get_or items i d))
              (subst (λ id. id_cmp (id_of (get_or items i d)) id ≡ Less) one (rising.each i k d behind within))
        ]

    from_set : IsRisingBy id_of items → IsFoundAtBy id_of items (id_of item) i → (other : X) →
        Contains (set items i item) other → (Contains items other × (id_of other ≢ id_of item)) ⊎ (other ≡ item)
    from_set rising found other (k, within, is) =
        elim (cases_eq k i) [
          | inl here ↦ inr (sym is ∙ rw here (get_or-set_same items i item other found.0))
          | inr elsewhere ↦
              let old : get_or items k other ≡ other = rw (get_or-set_other items i k item other elsewhere) at is in
              let inside : k < length items = rw length-set at within in
              inl (
                (k, inside, old),
                subst (λ x. id_of x ≢ id_of item) old (other_id rising found k other inside elsewhere),
              )
        ]

    into_set : IsFoundAtBy id_of items (id_of item) i → (other : X) →
        (Contains items other × (id_of other ≢ id_of item)) ⊎ (other ≡ item) → Contains (set items i item) other
    into_set found other (inl kept) =
        let k = kept.0.0 in
        let elsewhere : k ≡ i → ⊥ = λ here. kept.1 (ap id_of (sym kept.0.2) ∙ rw here (found.1 other)) in
        (k, rw length-set kept.0.1, rw (get_or-set_other items i k item other elsewhere) kept.0.2)
    into_set found other (inr is) =
        (i, rw length-set found.0, get_or-set_same items i item other found.0 ∙ sym is)

    -- what a list holds with another item in place of the one with its identifier, and with one more
    pub set_puts : IsRisingBy id_of items → IsFoundAtBy id_of items (id_of item) i →
        PutsBy id_of items (set items i item) item
    set_puts rising found other = (from_set rising found other, into_set found other)

    pub insert_puts : IsPlaceBy id_of items (id_of item) i → PutsBy id_of items (insert items i item) item
    insert_puts place other =
        let both = Contains-insert items i item other in (
          λ inside. elim (both.0 inside) [
            | inl old ↦ inl (
              old,
              λ is. none_at_place items (id_of item) i place
                  (record { item = other; inside = old; has_id = is }),
            )
            | inr is ↦ inr is
          ],
          λ either. both.1 (elim either [ inl kept ↦ inl kept.0 | inr is ↦ inr is ]),
        )
