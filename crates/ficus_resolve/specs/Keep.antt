-- The resolver `keep`: every version, one after the other.
use Rattle.std.specs.Prelude.{◌≡◌, ℕ, List, [], ◌∷◌, ◌++◌, length, codes, Contains}
use Rattle.std.specs.Fmt.{decimal}
use Rattle.std.specs.List.{flat_map, enumerate_from}
use Rattle.ficus_resolve.specs.Texts.{ending, IsInOrder}

-- the line over version `number` of `count`
abbrev pub headline : ℕ → ℕ → List ℕ
headline count number = codes "=== version " ++ decimal number ++ codes " of " ++ decimal count ++ 10 ∷ []

-- version `number` of `count` under its headline, and byte 10 where it isn't empty and doesn't end with it
abbrev pub kept_version : ℕ → ℕ → List ℕ → List ℕ
kept_version count number content = headline count number ++ content ++ ending content

-- the versions, numbered from 1, and the line `=== end`
abbrev pub kept_all : List (List ℕ) → List ℕ
kept_all versions =
    flat_map (λ version. kept_version (length versions) version.0 version.1) (enumerate_from 1 versions)
    ++ codes "=== end" ++ 10 ∷ []

-- the different contents in byte order, each under its headline
pub record KeepsAll (contents : List (List ℕ)) (text : List ℕ) : Type 0 where
  pub versions : List (List ℕ)
  pub ordered : IsInOrder (Contains contents) versions
  pub spelled : text ≡ kept_all versions
