-- Uses of which no two have one name.
use Rattle.std.proofs.Common.{◌≡◌, ◌≢◌, ◌∙◌, ℕ, ◌<◌, true, false, not, List, [], ◌∷◌, ◌++◌, length, get_or, inl, inr, refl, sym, ap, subst, arith, length-append, append_assoc, append-nil}
use Rattle.std.specs.Prelude.{AllPairs}
use Rattle.std.specs.Str.{bytes_eq}
use Rattle.std.proofs.lemmas.Bool.{and_parts, cases_Bool, not-true, true≢false}
use Rattle.std.proofs.lemmas.List.Folds.{Any-from_list_any, list_any_at}
use Rattle.std.proofs.Math.Seq.{get_or-append_seam}
use Rattle.std.proofs.Math.ListN.{get_or-append}
use Rattle.std.proofs.lemmas.List.Quantifiers.{all_pairs_push}
use Rattle.std.proofs.lemmas.Slice.Eq.{bytes_eq-Decides}
use Rattle.ficus_words.specs.Grammar.{Use}
use Rattle.ficus_words.proofs.Uses.{are_distinct, has_use}

abbrev AreApart : Use → Use → Type 0
AreApart one other = one.0 ≢ other.0

apart_of_new : (before : List Use) (one : Use) → has_use one.0 before ≡ false → (k : ℕ) (d : Use) → k < length before →
    AreApart (get_or before k d) one
apart_of_new before one new k d within same =
    true≢false
    (sym (list_any_at (λ first. bytes_eq first.0 one.0) before k d within ((bytes_eq-Decides (get_or before k d).0 one.0).1 same)) ∙ new)

grow : (before uses : List Use) → AllPairs AreApart before → are_distinct before uses ≡ true →
    AllPairs AreApart (before ++ uses)
grow before [] pairs is = subst (AllPairs AreApart) (sym (append-nil before)) pairs
grow before (one ∷ uses) pairs is =
    let parts = and_parts (not (has_use one.0 before)) (are_distinct (before ++ one ∷ []) uses) is in
    let new = apart_of_new before one (not-true (has_use one.0 before) parts.0) in
    subst (AllPairs AreApart) (append_assoc before (one ∷ []) uses)
    (grow (before ++ one ∷ []) uses (all_pairs_push AreApart before one pairs new) parts.1)

shrink : (before uses : List Use) → AllPairs AreApart (before ++ uses) → are_distinct before uses ≡ true
shrink before [] pairs = refl
shrink before (one ∷ uses) pairs = elim (cases_Bool (has_use one.0 before)) [
  | inr new ↦ rw new (shrink (before ++ one ∷ []) uses (subst (AllPairs AreApart) (sym (append_assoc before (one ∷ []) uses)) pairs))
  | inl again ↦
      let found = Any-from_list_any (λ (first : Use). bytes_eq first.0 one.0) before again in
      let at : get_or (before ++ one ∷ uses) found.0 found.1 ≡ found.1 =
      get_or-append before (one ∷ uses) found.1 found.0 found.2 ∙ found.3 in
      let seam : get_or (before ++ one ∷ uses) (length before) found.1 ≡ one = get_or-append_seam before one uses found.1 in
      absurd (pairs found.0 (length before) found.1 found.2 (omega (arith, length-append before (one ∷ uses)))
      (ap (λ (first : Use). first.0) at ∙ (bytes_eq-Decides found.1.0 one.0).0 found.4 ∙ sym
      (ap (λ (first : Use). first.0) seam)))
]

pub distinct_are : (uses : List Use) → are_distinct [] uses ≡ true → AllPairs AreApart uses
distinct_are uses is = grow [] uses (λ i j d below within. absurd (omega (arith, within))) is

pub distinct_of : (uses : List Use) → AllPairs AreApart uses → are_distinct [] uses ≡ true
distinct_of uses pairs = shrink [] uses pairs
