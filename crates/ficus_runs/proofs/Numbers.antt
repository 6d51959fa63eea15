-- The r-th of a list.
use Rattle.std.proofs.Common.{◌≡◌, ℕ, ◌+◌, ◌-◌, ◌<◌, ◌≤◌, List, [], ◌∷◌, ◌++◌, length, get_or, Some, refl, sym, ap, ◌∙◌, inl, inr, ◌⊎◌, arith}
use Rattle.std.proofs.lemmas.Bool.{cases_lt}
use Rattle.std.proofs.lemmas.List.{length_push, get_or_push, get_or_append_left}
use Rattle.std.proofs.lemmas.Option.{same_Some, slice_get-get_or, get_or_from_slice_get}
use Rattle.ficus_ids.specs.Members.{IsMember}
use Rattle.ficus_runs.specs.Numbered.{IsNumbered}

module _ {A : Type 0} {list : List A} {r : ℕ} where
  pub number_once : {x y : A} → IsNumbered list r x → IsNumbered list r y → x ≡ y
  number_once {x} {y} is too = same_Some x y (sym is.is ∙ too.is)

module _ {A : Type 0} (list : List A) (r : ℕ) where
  -- what stands at a place within the list
  pub number_read : (x d : A) → IsMember (length list) r → get_or list (r - 1) d ≡ x → IsNumbered list r x
  number_read x d member is =
      let one = member.at_least in
      let most = member.at_most in
      record { member = member; is = slice_get-get_or list (r - 1) d (omega arith) ∙ ap Some is }

-- there is one, at each place within the list
pub number_exists : {A : Type 0} (list : List A) (r : ℕ) → IsMember (length list) r → (x : A) × IsNumbered list r x
number_exists [] r member = absurd (omega (arith, member.at_least, member.at_most))
number_exists (first ∷ list) r member =
    (get_or (first ∷ list) (r - 1) first, number_read (first ∷ list) r _ first member refl)

module _ {A : Type 0} (list : List A) (last : A) where
  -- one more stands at the end
  pub number_end : IsNumbered (list ++ last ∷ []) (length list + 1) last
  number_end =
      number_read (list ++ last ∷ []) (length list + 1) last last
      (record { at_least = omega arith; at_most = omega (arith, length_push list last) })
      (get_or_push list last last (length list + 1 - 1) (omega arith))

  -- the others stay
  pub number_more : {r : ℕ} {x : A} → IsNumbered list r x → IsNumbered (list ++ last ∷ []) r x
  number_more {r} {x} is =
      let one = is.member.at_least in
      let most = is.member.at_most in
      number_read (list ++ last ∷ []) r x x
      (record { at_least = omega arith; at_most = omega (arith, length_push list last) })
      (get_or_append_left list (last ∷ []) x (r - 1) (omega arith) ∙ get_or_from_slice_get list (r - 1) x x is.is)

  pub number_cases : {r : ℕ} {x : A} → IsNumbered (list ++ last ∷ []) r x
      → IsNumbered list r x ⊎ ((r ≡ length list + 1) × (x ≡ last))
  number_cases {r} {x} is = go (cases_lt (r - 1) (length list))
    where
      one : 1 ≤ r
      one = is.member.at_least

      most : r ≤ length list + 1
      most = omega (arith, is.member.at_most, length_push list last)

      read : get_or (list ++ last ∷ []) (r - 1) x ≡ x
      read = get_or_from_slice_get (list ++ last ∷ []) (r - 1) x x is.is

      go : (r - 1 < length list) ⊎ (length list ≤ r - 1) → IsNumbered list r x ⊎ ((r ≡ length list + 1) × (x ≡ last))
      go (inl h) =
          inl (number_read list r x x (record { at_least = one; at_most = omega (arith, one) })
          (sym (get_or_append_left list (last ∷ []) x (r - 1) h) ∙ read))
      go (inr h) =
          inr (omega (arith, one, most), sym read ∙ get_or_push list last x (r - 1) (omega (arith, one, most)))
