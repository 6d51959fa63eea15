-- Lists of versions.
use Rattle.std.specs.Prelude.{◌≡◌, ◌≢◌, ◌≤◌, List, [], ◌∷◌, length, AllPairs, Contains}
use Rattle.std.specs.declared.cmp.Ordering.TheVariants.{Less}
use Rattle.ficus_vectors.specs.Vector.{Counts, no_counts, join, vector_cmp, AreApart}
use Rattle.ficus_file.specs.declared.version.Version.{Version}

-- for each replica the greatest count of the versions
abbrev pub join_all : List Version → Counts
join_all [] = no_counts
join_all (version ∷ versions) = join version.vector (join_all versions)

-- the versions of a file: 1 to 8 of them, none of which has another in its past, in the order of vectors
pub record AreCurrent (versions : List Version) : Type 0 where
  pub at_least : 1 ≤ length versions
  pub at_most : length versions ≤ 8
  pub apart : AllPairs (λ version other. AreApart version.vector other.vector) versions
  pub ordered : AllPairs (λ version other. vector_cmp version.vector other.vector ≡ Less) versions

-- two versions of the list differ in bytes
pub record HasTwoTexts (versions : List Version) : Type 0 where
  pub one : Version
  pub other : Version
  pub inside : Contains versions one
  pub inside_too : Contains versions other
  pub differ : one.bytes ≢ other.bytes
