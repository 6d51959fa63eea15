-- A text has one first part up to a separator.
use Rattle.std.proofs.Common.{◌≡◌, ◌≢◌, ℕ, ◌-◌, List, [], ◌∷◌, ◌++◌, length, take, drop, refl, sym, ◌∙◌, ap, arith}
use Rattle.std.proofs.Math.Seq.{take-length}
use Rattle.std.specs.List.{All, AllByRecursion}
use Rattle.std.proofs.lemmas.List.Elements.{recursion_from_All}
use Rattle.ficus_path.proofs.Lists.{cons_same}
use Rattle.ficus_path.specs.Spelling.{IsEndOr}

-- no byte is the separator
abbrev pub IsFreeOf : ℕ → List ℕ → Type 0
IsFreeOf separator text = All (λ byte. byte ≢ separator) text

not_before : (s a : ℕ) (x y : List ℕ) → a ≢ s → IsEndOr s y → y ≡ a ∷ x → ⊥
not_before s a x [] free rest e = cc
not_before s a x (c ∷ y) free rest e = let same : c ≡ a = cc in free (sym same ∙ rest)

parts_same : (s : ℕ) (x y v w : List ℕ) → AllByRecursion (λ byte. byte ≢ s) x → IsEndOr s y →
    AllByRecursion (λ byte. byte ≢ s) v → IsEndOr s w → x ++ y ≡ v ++ w → (x ≡ v) × (y ≡ w)
parts_same s [] y [] w free_x end_y free_v end_w e = (refl, e)
parts_same s [] y (a ∷ v) w free_x end_y free_v end_w e = absurd (not_before s a (v ++ w) y free_v.0 end_y e)
parts_same s (a ∷ x) y [] w free_x end_y free_v end_w e = absurd (not_before s a (x ++ y) w free_x.0 end_w (sym e))
parts_same s (a ∷ x) y (b ∷ v) w free_x end_y free_v end_w e =
    let head : a ≡ b = cc in
    let tail : x ++ y ≡ v ++ w = cc in
    let same = parts_same s x y v w free_x.1 end_y free_v.1 end_w tail in
    (cons_same head same.0, same.1)

pub cut_same : (s : ℕ) (x y v w : List ℕ) → IsFreeOf s x → IsEndOr s y → IsFreeOf s v → IsEndOr s w →
    x ++ y ≡ v ++ w → (x ≡ v) × (y ≡ w)
cut_same s x y v w free_x end_y free_v end_w e =
    parts_same s x y v w (recursion_from_All _ x free_x) end_y (recursion_from_All _ v free_v) end_w e

-- what a pattern binds behind the first byte
pub behind_first : (first : ℕ) (behind text : List ℕ) → text ≡ first ∷ behind →
    take (length text - 1) (drop 1 text) ≡ behind
behind_first first behind text e =
    let one_less : length (first ∷ behind) - 1 ≡ length behind = omega arith in
    ap (λ t. take (length t - 1) (drop 1 t)) e ∙ ap (λ n. take n behind) one_less ∙ take-length behind
