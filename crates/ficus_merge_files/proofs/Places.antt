-- Items at places of a list.
use Rattle.std.proofs.Common.{◌≡◌, ℕ, zero, suc, ◌+◌, ◌<◌, List, [], ◌∷◌, ◌++◌, length, slice_get, Some, refl, sym, ap, ◌∙◌, arith}
use Rattle.std.proofs.lemmas.List.Concat.{flat_map-append}
use Rattle.ficus_table.specs.SideBySide.{as_list}
use Rattle.ficus_merge_files.specs.News.{at_places, AreInside}

module _ {X : Type 0} where
  at_one : (items : List X) (n : ℕ) → n < length items → (item : X) × (slice_get items n ≡ Some item)
  at_one [] n within = absurd (omega (arith, within))
  at_one (item ∷ items) zero within = (item, refl)
  at_one (item ∷ items) (suc n) within = at_one items n (omega (arith, within))

  first_inside : (items : List X) (place : ℕ) (places : List ℕ) → AreInside items (place ∷ places) → place < length items
  first_inside items place places inside = inside 0 place (omega arith)

  rest_inside : (items : List X) (place : ℕ) (places : List ℕ) → AreInside items (place ∷ places) → AreInside items places
  rest_inside items place places inside = λ k d within. inside (suc k) d (omega (arith, within))

  -- there are as many as places
  pub places_count : (items : List X) (places : List ℕ) → AreInside items places →
      length (at_places items places) ≡ length places
  places_count items [] inside = refl
  places_count items (place ∷ places) inside =
      let one = at_one items place (first_inside items place places inside) in
      ap (λ found. length (as_list found ++ at_places items places)) one.1
      ∙ ap suc (places_count items places (rest_inside items place places inside))

  -- and each is the one at its place
  pub place_at : (items : List X) (places : List ℕ) → AreInside items places → (index place : ℕ) →
      slice_get places index ≡ Some place → slice_get (at_places items places) index ≡ slice_get items place
  place_at items [] inside index place is = absurd (cc)
  place_at items (first ∷ places) inside zero place is =
      let one = at_one items first (first_inside items first places inside) in
      let same : first ≡ place = cc in
      ap (λ found. slice_get (as_list found ++ at_places items places) zero) one.1 ∙ sym one.1
      ∙ ap (slice_get items) same
  place_at items (first ∷ places) inside (suc index) place is =
      let one = at_one items first (first_inside items first places inside) in
      ap (λ found. slice_get (as_list found ++ at_places items places) (suc index)) one.1
      ∙ place_at items places (rest_inside items first places inside) index place is

  get_more : (items : List X) (item : X) (n : ℕ) → n < length items →
      slice_get (items ++ item ∷ []) n ≡ slice_get items n
  get_more [] item n within = absurd (omega (arith, within))
  get_more (first ∷ items) item zero within = refl
  get_more (first ∷ items) item (suc n) within = get_more items item n (omega (arith, within))

  get_last : (items : List X) (item : X) → slice_get (items ++ item ∷ []) (length items) ≡ Some item
  get_last [] item = refl
  get_last (first ∷ items) item = get_last items item

  -- one item more leaves what is at the places
  pub places_still : (items : List X) (item : X) (places : List ℕ) → AreInside items places →
      at_places (items ++ item ∷ []) places ≡ at_places items places
  places_still items item [] inside = refl
  places_still items item (place ∷ places) inside =
      ap (λ found. as_list found ++ at_places (items ++ item ∷ []) places)
      (get_more items item place (first_inside items place places inside))
      ∙ ap (λ (rest : List X). as_list (slice_get items place) ++ rest)
      (places_still items item places (rest_inside items place places inside))

  -- and its own place adds it
  pub places_more : (items : List X) (item : X) (places : List ℕ) → AreInside items places →
      at_places (items ++ item ∷ []) (places ++ length items ∷ []) ≡ at_places items places ++ item ∷ []
  places_more items item places inside =
      flat_map-append (λ (place : ℕ). as_list (slice_get (items ++ item ∷ []) place)) places (length items ∷ [])
      ∙ ap (λ (front : List X). front ++ (as_list (slice_get (items ++ item ∷ []) (length items)) ++ []))
      (places_still items item places inside)
      ∙ ap (λ found. at_places items places ++ (as_list found ++ [])) (get_last items item)
