-- What two lists of versions make together.
use Rattle.std.specs.Prelude.{◌≡◌, ◌⊎◌, ◌↔◌, ◌≤◌, ℕ, List, length, AllPairs, Contains}
use Rattle.std.specs.List.{AllWithin}
use Rattle.std.specs.declared.cmp.Ordering.TheVariants.{Less}
use Rattle.ficus_vectors.specs.Vector.{Counts, vector_cmp, IsOver}
use Rattle.ficus_file.specs.declared.version.Version.{Version}

-- some version of the list is over the vector
pub record HasOver (versions : List Version) (vector : Counts) : Type 0 where
  pub version : Version
  pub inside : Contains versions version
  pub over : IsOver version.vector vector

-- some version of the list has the vector
pub record HasVector (versions : List Version) (vector : Counts) : Type 0 where
  pub version : Version
  pub inside : Contains versions version
  pub same : version.vector ≡ vector

-- no version of either list is over the vector
pub record IsLatest (mine theirs : List Version) (vector : Counts) : Type 0 where
  pub not_mine : HasOver mine vector → ⊥
  pub not_theirs : HasOver theirs vector → ⊥

-- a version of the one list or of the other
abbrev pub IsOfEither : List Version → List Version → Version → Type 0
IsOfEither mine theirs version = Contains mine version ⊎ Contains theirs version

-- a version of the two lists that none of their versions is over
pub record IsKept (mine theirs : List Version) (version : Version) : Type 0 where
  pub from : IsOfEither mine theirs version
  pub latest : IsLatest mine theirs version.vector

-- the versions stand in the order of vectors, no vector twice
abbrev pub AreOrdered : List Version → Type 0
AreOrdered versions = AllPairs (λ version other. vector_cmp version.vector other.vector ≡ Less) versions

-- the list has the kept versions of the two and no others, in the order of vectors
pub record AreMerged (mine theirs both : List Version) : Type 0 where
  pub items : (version : Version) → Contains both version ↔ IsKept mine theirs version
  pub ordered : AreOrdered both

-- versions of the two lists with one vector are one
abbrev pub HaveOneText : List Version → List Version → Type 0
HaveOneText mine theirs =
    (version other : Version) → IsOfEither mine theirs version → IsOfEither mine theirs other →
    version.vector ≡ other.vector → version ≡ other

-- a version with the vector goes in front of the one at this index
pub record IsPlaceOf (versions : List Version) (vector : Counts) (index : ℕ) : Type 0 where
  pub within : index ≤ length versions
  pub above : AllWithin (λ version. vector_cmp version.vector vector ≡ Less) versions 0 index
  pub below : AllWithin (λ version. vector_cmp vector version.vector ≡ Less) versions index (length versions)

-- the new list has the old versions and this one
abbrev pub Gains : List Version → List Version → Version → Type 0
Gains old new version = (other : Version) → Contains new other ↔ (Contains old other ⊎ (other ≡ version))

-- the new list has the old versions and this one, or is the old one, which has its vector
abbrev pub KeepsOrGains : List Version → List Version → Version → Type 0
KeepsOrGains old new version = ((new ≡ old) × HasVector old version.vector) ⊎ Gains old new version

-- a version of the list that none of the two lists is over
pub record IsKeptOf (from mine theirs : List Version) (version : Version) : Type 0 where
  pub inside : Contains from version
  pub latest : IsLatest mine theirs version.vector

-- the new list has the old versions and those of a list that are kept
abbrev pub GainsKept : List Version → List Version → List Version → List Version → List Version → Type 0
GainsKept from mine theirs old new =
    (version : Version) → Contains new version ↔ (Contains old version ⊎ IsKeptOf from mine theirs version)

-- each version of the list is one of the two lists
abbrev pub AreOfEither : List Version → List Version → List Version → Type 0
AreOfEither versions mine theirs = (version : Version) → Contains versions version → IsOfEither mine theirs version
