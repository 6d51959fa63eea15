-- One file after the other fits.
use Rattle.std.proofs.Common.{◌≡◌, inl, inr, ℕ, ◌+◌, List, [], ◌∷◌, ◌++◌, slice_get, take, Contains, Some, sym, ap, ◌∙◌, subst}
use Rattle.std.proofs.lemmas.List.Elements.{Contains-append_cases}
use Rattle.ficus_ids.specs.ListLaws.{here_or_there, not_inside_none}
use Rattle.ficus_file.specs.declared.file.FileReplica.{FileReplica}
use Rattle.ficus_merge_files.specs.Merge.{CanMerge, Fit}
use Rattle.ficus_mentions.proofs.Kept.{take_next}

pub fits_more : (mine theirs : List FileReplica) (i : ℕ) (their : FileReplica) → slice_get theirs i ≡ Some their →
    Fit mine (take i theirs) →
    ((file : FileReplica) → Contains mine file → file.id ≡ their.id → CanMerge file their) →
    Fit mine (take (i + 1) theirs)
fits_more mine theirs i their at before now = record {
  each = λ file other inside inside_too same. elim (Contains-append_cases (take i theirs) (their ∷ []) other (subst (λ l. Contains l other) next inside_too)) [
    | inl early ↦ before.each file other inside early same
    | inr last ↦ elim (here_or_there their other [] last) [
      | inl is ↦ subst (CanMerge file) (sym is) (now file inside (same ∙ ap (λ (f : FileReplica). f.id) is))
      | inr none ↦ absurd (not_inside_none other none)
    ]
  ];
}
  where
    next : take (i + 1) theirs ≡ take i theirs ++ their ∷ []
    next = take_next theirs i their at
