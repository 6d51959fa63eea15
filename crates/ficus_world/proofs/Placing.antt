-- What a piece is to those that are held of its answer.
use Rattle.std.proofs.Common.{◌≡◌, ◌≢◌, ℕ, ◌<◌, List, [], ◌∷◌, sym, ap, subst, ◌∙◌, inl, inr, ◌⊎◌, arith}
use Rattle.std.specs.List.{concat}
use Rattle.std.specs.Option.{unwrap_or}
use Rattle.std.proofs.lemmas.Bool.{cases_eq}
use Rattle.std.proofs.lemmas.List.{append-nil}
use Rattle.ficus_wire.specs.Parts.{HasAllBut, HasPart, joined, no_parts, with_part}
use Rattle.ficus_wire.proofs.Holding.{part_here}

-- where none is held
module _ (state pieces index : ℕ) where
  pub none_held : HasPart (no_parts state pieces) index → ⊥
  none_held has = cc

  module _ (below : index < pieces) where
    -- the only piece is the last
    pub one_is_last : pieces ≡ 1 → HasAllBut (no_parts state pieces) index
    one_is_last one other less differs = absurd (differs (omega (arith, one, less, below)))

    -- and where there are more, others are missing beside it
    pub others_left : pieces ≢ 1 → HasAllBut (no_parts state pieces) index → ⊥
    others_left more all = go (cases_eq index 0)
      where
        go : (index ≡ 0) ⊎ (index ≢ 0) → ⊥
        go (inl first) =
            let has = all 1 (omega (arith, more, below)) (λ same. omega (arith, same, first)) in cc
        go (inr later) = let has = all 0 (omega (arith, below)) (λ same. later (sym same)) in cc

    -- so the last is all
    pub joined_one : (bytes : List ℕ) → HasAllBut (no_parts state pieces) index
        → joined (with_part (no_parts state pieces) index bytes) ≡ bytes
    joined_one bytes all = go (cases_eq pieces 1)
      where
        only : joined (with_part (no_parts state 1) 0 bytes) ≡ bytes
        only =
            ap (λ part. concat (unwrap_or part [] ∷ [])) (part_here (no_parts state 1) 0 bytes) ∙ append-nil bytes

        go : (pieces ≡ 1) ⊎ (pieces ≢ 1) → joined (with_part (no_parts state pieces) index bytes) ≡ bytes
        go (inl one) =
            let first : index ≡ 0 = omega (arith, one, below) in
            subst (λ n. joined (with_part (no_parts state n) index bytes) ≡ bytes) (sym one)
            (subst (λ n. joined (with_part (no_parts state 1) n bytes) ≡ bytes) (sym first) only)
        go (inr more) = absurd (others_left more all)
