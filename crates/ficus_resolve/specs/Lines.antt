-- The resolver `lines`: the set of the lines of all contents.
use Rattle.std.specs.Prelude.{◌≡◌, ◌≢◌, ℕ, List, [], ◌∷◌, ◌++◌, All, Contains}
use Rattle.std.specs.List.{flat_map}
use Rattle.ficus_resolve.specs.Texts.{ending, IsInOrder}

-- the line and byte 10
abbrev pub line_text : List ℕ → List ℕ
line_text line = line ++ 10 ∷ []

-- the lines have no byte 10; each followed by it, they are the content, which is ended first if it isn't
pub record AreLines (content : List ℕ) (lines : List (List ℕ)) : Type 0 where
  pub each : All (λ line. All (λ byte. byte ≢ 10) line) lines
  pub spelled : flat_map line_text lines ≡ content ++ ending content

-- one of the contents has the line
pub record IsLineAmong (contents : List (List ℕ)) (line : List ℕ) : Type 0 where
  pub content : List ℕ
  pub inside : Contains contents content
  pub lines : List (List ℕ)
  pub cut : AreLines content lines
  pub has : Contains lines line

-- the lines that the contents have, each once, in byte order, and followed by byte 10
pub record IsUnionOfLines (contents : List (List ℕ)) (text : List ℕ) : Type 0 where
  pub lines : List (List ℕ)
  pub ordered : IsInOrder (IsLineAmong contents) lines
  pub spelled : text ≡ flat_map line_text lines
