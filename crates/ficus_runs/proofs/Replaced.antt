-- One of a list in the place of another.
use Rattle.std.proofs.Common.{◌≡◌, ◌≢◌, ℕ, ◌-◌, ◌<◌, ◌≤◌, List, length, get_or, sym, ap, subst, ◌∙◌, inl, inr, ◌⊎◌, arith}
use Rattle.std.specs.Prelude.{slice_set}
use Rattle.std.proofs.lemmas.Bool.{cases_eq}
use Rattle.std.proofs.lemmas.List.{get_or-set_same, get_or-set_other, length-set}
use Rattle.std.proofs.lemmas.Option.{get_or_from_slice_get}
use Rattle.ficus_ids.specs.Members.{IsMember}
use Rattle.ficus_runs.specs.Numbered.{IsNumbered}
use Rattle.ficus_runs.proofs.Numbers.{number_read}

module _ {A : Type 0} (list : List A) (r q : ℕ) (next found : A) (from_one : 1 ≤ r)
    (is : IsNumbered (slice_set list (r - 1) next) q found) where
  member : IsMember (length list) q
  member = subst (λ n. IsMember n q) (length-set list (r - 1) next) is.member

  read : get_or (slice_set list (r - 1) next) (q - 1) found ≡ found
  read = get_or_from_slice_get (slice_set list (r - 1) next) (q - 1) found found is.is

  same_place : q ≡ r → found ≡ next
  same_place same =
      let one = member.at_least in
      let most = member.at_most in
      let h : q - 1 < length list = omega arith in
      let at : q - 1 ≡ r - 1 = ap (λ n. n - 1) same in
      sym read ∙ ap (λ place. get_or (slice_set list place next) (q - 1) found) (sym at)
      ∙ get_or-set_same list (q - 1) next found h

  other_place : q ≢ r → IsNumbered list q found
  other_place differs =
      let one = member.at_least in
      let other : q - 1 ≢ r - 1 = omega arith in
      number_read list q found found member (sym (get_or-set_other list (r - 1) (q - 1) next found other) ∙ read)

  -- the new one stands in its place, and the others in theirs
  pub replaced : ((q ≡ r) × (found ≡ next)) ⊎ ((r ≢ q) × IsNumbered list q found)
  replaced =
      elim (cases_eq q r) [
        | inl same ↦ inl (same, same_place same)
        | inr differs ↦ inr (λ same. differs (sym same), other_place differs)
      ]

-- what stands in a list in which one was replaced is that one, or stood there before
pub either_placed : {A : Type 0} (list : List A) (place q : ℕ) (next found : A)
    → IsNumbered (slice_set list place next) q found → (found ≡ next) ⊎ IsNumbered list q found
either_placed {A} list place q next found is = go (cases_eq (q - 1) place)
  where
    member : IsMember (length list) q
    member = subst (λ n. IsMember n q) (length-set list place next) is.member

    read : get_or (slice_set list place next) (q - 1) found ≡ found
    read = get_or_from_slice_get (slice_set list place next) (q - 1) found found is.is

    go : (q - 1 ≡ place) ⊎ (q - 1 ≢ place) → (found ≡ next) ⊎ IsNumbered list q found
    go (inl same) =
        let one = member.at_least in
        let most = member.at_most in
        let h : q - 1 < length list = omega arith in
        inl (sym read ∙ ap (λ n. get_or (slice_set list n next) (q - 1) found) (sym same)
        ∙ get_or-set_same list (q - 1) next found h)
    go (inr differs) =
        inr (number_read list q found found member
        (sym (get_or-set_other list place (q - 1) next found (λ e. differs e)) ∙ read))
