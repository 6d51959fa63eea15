-- Two lists with the same identifiers at the same places, whatever their items are.
use Rattle.std.proofs.Common.{◌≡◌, ℕ, ◌<◌, List, length, map, get_or, ◌∙◌, sym, ap, arith}
use Rattle.std.proofs.lemmas.List.{length-map, get_or-map}
use Rattle.ficus_ids.specs.declared.id.Id.{Id}
use Rattle.ficus_ids.specs.Rising.{IsRisingBy, IsFoundAtBy, IsPlaceBy}
use Rattle.ficus_ids.specs.RisingLaws.{item_at}

module _ {X Y : Type 0} (f : X → Id) (g : Y → Id) (xs : List X) (ys : List Y) (same : map f xs ≡ map g ys) where
  pub same_length : length xs ≡ length ys
  same_length = sym (length-map xs f) ∙ ap length same ∙ length-map ys g

  pub same_id : (i : ℕ) (x : X) (y : Y) → i < length xs → f (get_or xs i x) ≡ g (get_or ys i y)
  same_id i x y within =
      sym (get_or-map f xs i x (f x) within) ∙ ap (λ ids. get_or ids i (f x)) same ∙
      get_or-map g ys i y (f x) (rw (← same_length) within)

  pub same_id_there : (i : ℕ) (x : X) → i < length xs → (id : Id) → ((y : Y) → g (get_or ys i y) ≡ id) →
      f (get_or xs i x) ≡ id
  same_id_there i x within id is =
      let y = (item_at ys i (rw (← same_length) within)).0 in same_id i x y within ∙ is y

  pub rising_same : IsRisingBy g ys → IsRisingBy f xs
  rising_same rising = record {
    each = λ i j x before within.
        let there : j < length ys = rw (← same_length) within in
        let y = (item_at ys j there).0 in
        rw (same_id i x y (omega arith), same_id j x y within) (rising.each i j y before there);
  }

  pub found_same : (id : Id) (i : ℕ) → IsFoundAtBy g ys id i → IsFoundAtBy f xs id i
  found_same id i found =
      let within : i < length xs = rw same_length found.0 in
      (within, λ x. same_id_there i x within id found.1)

  pub place_same : (id : Id) (i : ℕ) → IsPlaceBy g ys id i → IsPlaceBy f xs id i
  place_same id i place = record {
    within = rw same_length place.within;
    above = λ k x from to.
        let within : k < length xs = omega (arith, place.within, same_length) in
        let y = (item_at ys k (rw (← same_length) within)).0 in
        rw (same_id k x y within) (place.above k y from to);
    below = λ k x from to.
        let y = (item_at ys k (rw (← same_length) to)).0 in
        rw (same_id k x y to) (place.below k y from (rw (← same_length) to));
  }
