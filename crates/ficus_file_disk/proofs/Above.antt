-- The folder above is shorter.
use Rattle.std.proofs.Common.{◌≡◌, ◌⊎◌, inl, inr, ℕ, ◌<◌, ◌≤◌, List, [], ◌∷◌, length, Some, sym, ◌∙◌, ap, arith, length-append}
use Rattle.std.proofs.lemmas.Bool.{cases_lt}
use Rattle.std.proofs.lemmas.List.{take_all}
use Rattle.std.proofs.lemmas.Paths.{path_components_parent, take_parent}
use Rattle.std.specs.Path.{path_components, path_parent}

-- it has a component less
not_the_same : (path folder : List ℕ) → path_parent path ≡ Some folder → folder ≡ path → ⊥
not_the_same path folder is same =
    let (last, parts) = path_components_parent path folder is in
    omega (
      arith,
      ap length parts,
      length-append (path_components folder) (last ∷ []),
      ap (λ (text : List ℕ). length (path_components text)) same,
    )

-- it is a front
shorter_or_the_same : (path folder : List ℕ) → path_parent path ≡ Some folder
    → (length folder < length path) ⊎ (length path ≤ length folder) → length folder < length path
shorter_or_the_same path folder is (inl shorter) = shorter
shorter_or_the_same path folder is (inr all) =
    elim (not_the_same path folder is (sym (take_parent path folder is) ∙ take_all (length folder) path all)) [ ]

pub above_is_shorter : (path folder : List ℕ) → Some folder ≡ path_parent path → length folder < length path
above_is_shorter path folder is =
    shorter_or_the_same path folder (sym is) (cases_lt (length folder) (length path))
