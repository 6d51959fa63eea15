-- Versions that are kept one after the other.
use Rattle.std.specs.Prelude.{◌≡◌, ℕ, ◌+◌, ◌<◌, List, [], ◌∷◌, ◌++◌, length, take, codes, ◌≤◌}
use Rattle.std.specs.Borrow.{Bor}
use Rattle.std.specs.List.{flat_map, enumerate_from}
use Rattle.std.proofs.Common.{arith, get_or, sym, ◌∙◌, ap}
use Rattle.std.proofs.Math.ListN.{get_or-map, length-map}
use Rattle.std.proofs.lemmas.List.{append-nil, append_assoc, take_more, take_all}
use Rattle.std.proofs.lemmas.List.Concat.{flat_map-append}
use Rattle.std.proofs.lemmas.List.FromFn.{get_or-enumerate_from, length-enumerate_from}
use Rattle.ficus_resolve.specs.Keep.{headline, kept_version, kept_all}
use Rattle.ficus_resolve.specs.Texts.{ending, texts_of}

-- the texts of the first items of a list, and of one more
pub flat_map_take : {X A : Type 0} (f : X → List A) (xs : List X) (index : ℕ) (d : X) → index < length xs →
    flat_map f (take (index + 1) xs) ≡ flat_map f (take index xs) ++ f (get_or xs index d)
flat_map_take f xs index d within =
    ap (flat_map f) (take_more xs index d within)
    ∙ flat_map-append f (take index xs) (get_or xs index d ∷ [])
    ∙ ap (λ last. flat_map f (take index xs) ++ last) (append-nil (f (get_or xs index d)))

-- version `number` of `count`, from the number and its content
abbrev pub version_text : ℕ → ℕ × List ℕ → List ℕ
version_text count version = kept_version count version.0 version.1

-- the versions before the index, one after the other
abbrev pub kept_before : List (Bor (List ℕ)) → ℕ → List ℕ
kept_before versions index =
    flat_map (version_text (length versions)) (take index (enumerate_from 1 (texts_of versions)))

-- what an index beyond a list of references is said to lead to
abbrev pub nothing : Bor (List ℕ)
nothing = record { ref_ptr = (0, 0); now = [] }

module _ (versions : List (Bor (List ℕ))) where
  length_numbered : length (enumerate_from 1 (texts_of versions)) ≡ length versions
  length_numbered = length-enumerate_from 1 (texts_of versions) ∙ length-map versions (λ v. v.now)

  numbered_at : (index : ℕ) → index < length versions →
      get_or (enumerate_from 1 (texts_of versions)) index (0, []) ≡ (index + 1, (get_or versions index nothing).now)
  numbered_at index within =
      let inside : index < length (texts_of versions) = omega (arith, within, length-map versions (λ v. v.now)) in
      let number : 1 + index ≡ index + 1 = omega arith in
      get_or-enumerate_from 1 (texts_of versions) index (0, []) inside
      ∙ λ i. (number i, get_or-map (λ v. v.now) versions index nothing i)

  pub kept_more : (index : ℕ) (content : List ℕ) → index < length versions →
      content ≡ (get_or versions index nothing).now →
      kept_before versions index ++ headline (length versions) (index + 1) ++ content ++ ending content
      ≡ kept_before versions (index + 1)
  kept_more index content within at =
      let before = kept_before versions index in
      let line = headline (length versions) (index + 1) in
      let inside : index < length (enumerate_from 1 (texts_of versions)) = omega (arith, within, length_numbered) in
      append_assoc (before ++ line) content (ending content)
      ∙ append_assoc before line (content ++ ending content)
      ∙ ap (λ end. before ++ end) (sym (append_assoc line content (ending content)))
      ∙ ap (λ c. before ++ kept_version (length versions) (index + 1) c) at
      ∙ ap (λ v. before ++ version_text (length versions) v) (sym (numbered_at index within))
      ∙ sym (flat_map_take (version_text (length versions)) (enumerate_from 1 (texts_of versions)) index (0, []) inside)

  pub kept_whole : (index : ℕ) → length versions ≤ index →
      kept_before versions index ++ (codes "=== end" ++ 10 ∷ []) ≡ kept_all (texts_of versions)
  kept_whole index beyond =
      let numbered = enumerate_from 1 (texts_of versions) in
      let end = codes "=== end" ++ 10 ∷ [] in
      ap (λ vs. flat_map (version_text (length versions)) vs ++ end) (take_all index numbered (omega (arith, beyond, length_numbered)))
      ∙ ap (λ count. flat_map (version_text count) numbered ++ end) (sym (length-map versions (λ v. v.now)))
      ∙ sym (append_assoc (flat_map (version_text (length (texts_of versions))) numbered) (codes "=== end") (10 ∷ []))
