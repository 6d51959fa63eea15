-- Lists in which one item has become another.
use Rattle.std.proofs.Common.{◌≡◌, ◌≢◌, ◌⊎◌, ℕ, ◌<◌, List, length, get_or, set, Some, sym, ap, ◌∙◌, subst, inl, inr, arith}
use Rattle.std.specs.Prelude.{Contains, slice_get}
use Rattle.std.specs.declared.cmp.Ordering.TheVariants.{Less}
use Rattle.std.proofs.lemmas.Bool.{cases_order}
use Rattle.std.proofs.lemmas.List.{length-set, get_or-set_same, get_or-set_other}
use Rattle.std.proofs.lemmas.Option.{slice_get_within, get_or_from_slice_get}
use Rattle.ficus_ids.specs.Id.{id_cmp}
use Rattle.ficus_ids.specs.IdLaws.{not_below_itself}
use Rattle.ficus_ids.specs.Rising.{IsRisingBy}
use Rattle.ficus_ids.specs.declared.id.Id.{Id}

-- In each of these the identifiers rise, and the item at the index becomes another one.
module _ {X : Type 0} (id_of : X → Id) (xs : List X) (rising : IsRisingBy id_of xs) (index : ℕ) (old new : X)
    (at : slice_get xs index ≡ Some old) where
  within : index < length xs
  within = slice_get_within xs index old at

  pub old_inside : Contains xs old
  old_inside = (index, within, get_or_from_slice_get xs index old old at)

  -- of two places neither has the identifier of the other
  ids_differ : (i j : ℕ) (d : X) → i < j → j < length xs → id_of (get_or xs i d) ≢ id_of (get_or xs j d)
  ids_differ i j d before inside same = not_below_itself (id_of (get_or xs i d))
      (subst (λ id. id_cmp (id_of (get_or xs i d)) id ≡ Less) (sym same) (rising.each i j d before inside))

  -- no other item has its identifier
  others_differ : (other : ℕ) (x : X) → other ≢ index → other < length xs → get_or xs other x ≡ x →
      id_of x ≢ id_of old
  others_differ other x differs inside is same =
      let old_is = get_or_from_slice_get xs index old x at in
      let one : id_of (get_or xs other x) ≡ id_of (get_or xs index x) = ap id_of is ∙ same ∙ sym (ap id_of old_is) in
      elim (cases_order other index) [
        | inl equal ↦ differs equal
        | inr (inl before) ↦ ids_differ other index x before within one
        | inr (inr behind) ↦ ids_differ index other x behind inside (sym one)
      ]

  elsewhere : (other : ℕ) (x : X) → other ≢ index → other < length xs → get_or (set xs index new) other x ≡ x →
      Contains xs x × (id_of x ≢ id_of old)
  elsewhere other x differs inside is =
      let was = sym (get_or-set_other xs index other new x differs) ∙ is in
      ((other, inside, was), others_differ other x differs inside was)

  -- the new list has the new item, and of the old ones all that have another identifier
  pub from_set : (x : X) → Contains (set xs index new) x → (x ≡ new) ⊎ (Contains xs x × (id_of x ≢ id_of old))
  from_set x (other, inside, is) =
      let inside_before : other < length xs = omega (arith, length-set xs index new) in
      elim (cases_order other index) [
        | inl equal ↦ inl
            (sym is ∙ ap (λ k. get_or (set xs index new) k x) equal ∙ get_or-set_same xs index new x within)
        | inr (inl before) ↦ inr (elsewhere other x (λ equal. omega arith) inside_before is)
        | inr (inr behind) ↦ inr (elsewhere other x (λ equal. omega arith) inside_before is)
      ]

  pub new_inside : Contains (set xs index new) new
  new_inside = (index, omega (arith, within, length-set xs index new), get_or-set_same xs index new new within)

  pub into_set : (x : X) → Contains xs x → id_of x ≢ id_of old → Contains (set xs index new) x
  into_set x (other, inside, is) differs =
      let elsewhere_still : other ≢ index = λ equal. differs (ap id_of (sym is ∙ ap (λ k. get_or xs k x) equal ∙
      get_or_from_slice_get xs index old x at)) in
      (other, omega (arith, length-set xs index new), get_or-set_other xs index other new x elsewhere_still ∙ is)
