-- A frame's head, put into its room.
use Rattle.std.proofs.Common.{◌≡◌, ℕ, ◌+◌, ◌≤◌, List, ◌++◌, length, take, drop, sym, ◌∙◌, ap, arith, append_assoc, length-append, length-take}
use Rattle.std.proofs.lemmas.List.{take_at, drop_at, drop-drop}
use Rattle.ficus_disk.specs.Bytes.{patch}

-- two parts of the head, one behind the other, and what stands behind them
module _ (items xs ys : List ℕ) (at : ℕ) (whole : at + length xs + length ys ≡ 16) (long : 16 ≤ length items) where
  short : length (take at items) ≡ at
  short = omega (arith, length-take at items)

  front : length (take at items ++ xs) ≡ at + length xs
  front = omega (arith, short, length-append (take at items) xs)

  begins : take (at + length xs) (patch items at xs) ≡ take at items ++ xs
  begins = take_at (take at items ++ xs) (drop (at + length xs) items) (at + length xs) front

  ends : drop (at + length xs + length ys) (patch items at xs) ≡ drop 16 items
  ends =
      sym (drop-drop (length ys) (at + length xs) (patch items at xs))
      ∙ ap (λ (l : List ℕ). drop (length ys) l)
      (drop_at (take at items ++ xs) (drop (at + length xs) items) (at + length xs) front)
      ∙ drop-drop (length ys) (at + length xs) items
      ∙ ap (λ (n : ℕ). drop n items) whole

  filled : patch (patch items at xs) (at + length xs) ys ≡ take at items ++ (xs ++ ys ++ drop 16 items)
  filled = (λ i. begins i ++ ys ++ ends i) ∙ simp append_assoc

  pub headed : (tail : List ℕ)
      → drop at (patch (patch items at xs) (at + length xs) ys ++ tail) ≡ xs ++ ys ++ drop 16 items ++ tail
  headed tail =
      ap (λ (l : List ℕ). drop at (l ++ tail)) filled
      ∙ ap (λ (l : List ℕ). drop at l) (append_assoc (take at items) (xs ++ ys ++ drop 16 items) tail)
      ∙ drop_at (take at items) (xs ++ ys ++ drop 16 items ++ tail) at short
