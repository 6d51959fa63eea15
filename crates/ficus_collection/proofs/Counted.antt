-- What is left of a rising list isn't longer.
use Rattle.std.proofs.Common.{◌≡◌, ◌≤◌, List, [], ◌∷◌, length, ◌∙◌, subst, sym, arith, inl, inr}
use Rattle.std.specs.Prelude.{Contains}
use Rattle.std.specs.declared.cmp.Ordering.TheVariants.{Less}
use Rattle.ficus_ids.specs.declared.id.Id.{Id}
use Rattle.ficus_ids.specs.Id.{id_cmp}
use Rattle.ficus_ids.specs.IdLaws.{id_cmp_total, not_below_itself}
use Rattle.ficus_ids.specs.ListLaws.{here, there, here_or_there, not_inside_none, first_below, rest_rises}
use Rattle.ficus_ids.specs.Rising.{IsRisingBy}

module _ {X : Type 0} (id_of : X → Id) where
  abbrev Below : X → X → Type 0
  Below a b = id_cmp (id_of a) (id_of b) ≡ Less

  rest_rise : (x : X) (xs : List X) → IsRisingBy id_of (x ∷ xs) → IsRisingBy id_of xs
  rest_rise x xs rising = record { each = rest_rises Below x xs rising.each }

  -- what comes behind the first item isn't the first item
  not_first : (x : X) (xs : List X) (y : X) → IsRisingBy id_of (x ∷ xs) → Contains xs y → y ≡ x → ⊥
  not_first x xs y rising behind same =
      not_below_itself (id_of x)
      (subst (λ z. Below x z) same (first_below Below x xs y rising.each behind))

  pub not_longer : (xs ys : List X) → IsRisingBy id_of xs → IsRisingBy id_of ys →
      ((y : X) → Contains ys y → Contains xs y) → length ys ≤ length xs
  not_longer xs [] rising rises into = omega arith
  not_longer [] (y ∷ ys) rising rises into = absurd (not_inside_none y (into y (here y ys)))
  not_longer (x ∷ xs) (y ∷ ys) rising rises into =
      elim (here_or_there x y xs (into y (here y ys))) [
        | inl same ↦
            let rest = not_longer xs ys (rest_rise x xs rising) (rest_rise y ys rises)
            (λ z inside. elim (here_or_there x z xs (into z (there y z ys inside))) [
              | inl first ↦ absurd (not_first y ys z rises inside (first ∙ sym same))
              | inr behind ↦ behind
            ]) in
            omega (arith, rest)
        | inr behind ↦
            let rest = not_longer xs (y ∷ ys) (rest_rise x xs rising) rises
            (λ z inside. elim (here_or_there x z xs (into z inside)) [
              | inl first ↦ elim (here_or_there y z ys inside) [
                | inl is ↦ absurd (not_first x xs y rising behind (sym is ∙ first))
                | inr after ↦ absurd (not_below_itself (id_of x)
                    (id_cmp_total.trans (id_of x) (id_of y) (id_of x)
                    (first_below Below x xs y rising.each behind)
                    (subst (Below y) first (first_below Below y ys z rises.each after))))
              ]
              | inr later ↦ later
            ]) in
            omega (arith, rest)
      ]
