-- What is taken of bytes.
use Rattle.std.proofs.Common.{◌≡◌, ℕ, ◌<◌, ◌≤◌, List, length, take, sym, ap, ◌∙◌, inl, inr, arith}
use Rattle.std.proofs.lemmas.Bool.{cases_order}
use Rattle.std.proofs.lemmas.List.{take_all}

-- where less is taken, it is all there is
pub same_front : (xs : List ℕ) (less more : ℕ) → less ≤ more → (less < more → length xs ≤ less) → take less xs ≡ take more xs
same_front xs less more within all = elim (cases_order less more) [
  | inl is ↦ ap (λ (n : ℕ). take n xs) is
  | inr (inl is) ↦ take_all less xs (all is) ∙ sym (take_all more xs (omega (arith, all is, is)))
  | inr (inr is) ↦ absurd (omega (arith, within, is))
]
