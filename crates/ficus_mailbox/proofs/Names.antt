-- Names that are spelled alike.
use Rattle.std.proofs.Common.{◌≡◌, ℕ, ◌<◌, ◌^◌, List, [], ◌++◌, drop, get_or, refl, ap, append_assoc, arith}
use Rattle.std.specs.Fmt.{decimal}
use Rattle.std.proofs.lemmas.Fmt.{decimal_injective}
use Rattle.std.proofs.lemmas.List.{append-nil}
use Rattle.ficus_path.specs.Spelling.{IsEndOr}
use Rattle.ficus_path.proofs.CutLaws.{cut_same}
use Rattle.ficus_path.proofs.IdLaws.{IsFreeOf-decimal}
use Rattle.ficus_mailbox.specs.MessageName.{FitsName, FitsPiece, FitsRoute, dashed, name_text}
use Rattle.ficus_mailbox.specs.declared.message_name.MessageName.{MessageName}
use Rattle.ficus_mailbox.specs.declared.message_name.MessageName.TheVariants.{Ask, Piece}

-- a number in front is cut off in one way
pub one_dashed : (m n : ℕ) (x y : List ℕ) → m < 2 ^ 64 → n < 2 ^ 64 → IsEndOr 45 x → IsEndOr 45 y →
    dashed m ++ x ≡ dashed n ++ y → (m ≡ n) × (x ≡ y)
one_dashed m n x y fits also end ends same =
    let tails : decimal m ++ x ≡ decimal n ++ y = cc in
    let parts = cut_same 45 (decimal m) x (decimal n) y (IsFreeOf-decimal 45 m fits (omega arith)) end
    (IsFreeOf-decimal 45 n also (omega arith)) ends tails in
    (decimal_injective m n fits also parts.0, parts.1)

pub one_route : (from to number other others next : ℕ) (x y : List ℕ) → FitsRoute from to number →
    FitsRoute other others next → IsEndOr 45 x → IsEndOr 45 y →
    dashed from ++ (dashed to ++ (dashed number ++ x)) ≡ dashed other ++ (dashed others ++ (dashed next ++ y)) →
    (from ≡ other) × (to ≡ others) × (number ≡ next) × (x ≡ y)
one_route from to number other others next x y fits also end ends same =
    let first = one_dashed from other (dashed to ++ (dashed number ++ x)) (dashed others ++ (dashed next ++ y))
    (omega (arith, fits.from_member.at_most)) (omega (arith, also.from_member.at_most)) refl refl same in
    let second = one_dashed to others (dashed number ++ x) (dashed next ++ y)
    (omega (arith, fits.to_member.at_most)) (omega (arith, also.to_member.at_most)) refl refl first.1 in
    let third = one_dashed number next x y fits.fits also.fits end ends second.1 in
    (first.0, second.0, third.0, third.1)

one_ask : (from to number other others next : ℕ) → FitsRoute from to number → FitsRoute other others next →
    name_text (Ask from to number) ≡ name_text (Ask other others next) → Ask from to number ≡ Ask other others next
one_ask from to number other others next fits also same =
    let regrouped = simp append_assoc at same in
    let tails : dashed from ++ (dashed to ++ (dashed number ++ [])) ≡ dashed other ++ (dashed others ++ (dashed next ++ [])) =
    simp append-nil (ap (drop 3) regrouped) in
    let parts = one_route from to number other others next [] [] fits also tt tt tails in
    let e : from ≡ other = parts.0 in
    let f : to ≡ others = parts.1 in
    let g : number ≡ next = parts.2 in
    cc

one_piece : (from to number state index other others next states place : ℕ) → FitsPiece from to number state index →
    FitsPiece other others next states place →
    name_text (Piece from to number state index) ≡ name_text (Piece other others next states place) →
    Piece from to number state index ≡ Piece other others next states place
one_piece from to number state index other others next states place fits also same =
    let regrouped = simp append_assoc at same in
    let tails : dashed from ++ (dashed to ++ (dashed number ++ (dashed state ++ dashed index)))
    ≡ dashed other ++ (dashed others ++ (dashed next ++ (dashed states ++ dashed place))) = ap (drop 5) regrouped in
    let parts = one_route from to number other others next (dashed state ++ dashed index) (dashed states ++ dashed place)
    fits.route also.route refl refl tails in
    let fourth = one_dashed state states (dashed index) (dashed place) fits.state_fits also.state_fits refl refl parts.3 in
    let last : dashed index ++ [] ≡ dashed place ++ [] = ap (λ (text : List ℕ). text ++ []) fourth.1 in
    let fifth = one_dashed index place [] [] (omega (arith, fits.index_fits)) (omega (arith, also.index_fits)) tt tt last in
    let e : from ≡ other = parts.0 in
    let f : to ≡ others = parts.1 in
    let g : number ≡ next = parts.2 in
    let h : state ≡ states = fourth.0 in
    let i : index ≡ place = fifth.0 in
    cc

pub one_name : (a b : MessageName) → FitsName a → FitsName b → name_text a ≡ name_text b → a ≡ b
one_name (Ask from to number) (Ask other others next) fits also same =
    one_ask from to number other others next fits also same
one_name (Ask from to number) (Piece other others next states place) fits also same =
    absurd (omega (arith, ap (λ (text : List ℕ). get_or text 0 0) same))
one_name (Piece from to number state index) (Ask other others next) fits also same =
    absurd (omega (arith, ap (λ (text : List ℕ). get_or text 0 0) same))
one_name (Piece from to number state index) (Piece other others next states place) fits also same =
    one_piece from to number state index other others next states place fits also same
