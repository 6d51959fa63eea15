-- Numbered lines, one after the other.
use Rattle.std.proofs.Common.{◌≡◌, ℕ, ◌+◌, ◌<◌, List, [], ◌∷◌, ◌++◌, length, get_or, take, sym, ap, ◌∙◌, arith, append_assoc, length-take}
use Rattle.std.proofs.lemmas.List.{append-nil, take_more}
use Rattle.ficus_opening.specs.Check.Lines.{numbered_lines}

module _ {A : Type 0} (line : ℕ → A → List ℕ) where
  -- the line of one more
  pub lines_more : (first : ℕ) (all : List A) (one : A)
      → numbered_lines line first (all ++ one ∷ []) ≡ numbered_lines line first all ++ line (first + length all) one
  lines_more first [] one = append-nil (line first one) ∙ ap (λ n. line n one) (omega arith)
  lines_more first (each ∷ all) one =
      ap (λ (lines : List ℕ). line first each ++ lines) (lines_more (first + 1) all one)
      ∙ sym (append_assoc (line first each) (numbered_lines line (first + 1) all) _)
      ∙ ap (λ n. line first each ++ numbered_lines line (first + 1) all ++ line n one) (omega arith)

  -- the lines so far, and the next one
  pub lines_next : (all : List A) (index : ℕ) (none one : A) (before old new : List ℕ)
      → index < length all → get_or all index none ≡ one
      → old ≡ before ++ numbered_lines line 1 (take index all) → new ≡ old ++ line (index + 1) one
      → new ≡ before ++ numbered_lines line 1 (take (index + 1) all)
  lines_next all index none one before old new fits at so_far added =
      let place : 1 + length (take index all) ≡ index + 1 = omega (arith, length-take index all, fits) in
      let one_more : take (index + 1) all ≡ take index all ++ one ∷ [] =
      take_more all index none fits ∙ ap (λ h. take index all ++ h ∷ []) at in
      added ∙ ap (λ (t : List ℕ). t ++ line (index + 1) one) so_far
      ∙ append_assoc before (numbered_lines line 1 (take index all)) (line (index + 1) one)
      ∙ ap (λ (t : List ℕ). before ++ t)
      (ap (λ n. numbered_lines line 1 (take index all) ++ line n one) (sym place)
      ∙ sym (lines_more 1 (take index all) one)
      ∙ ap (numbered_lines line 1) (sym one_more))
