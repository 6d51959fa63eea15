-- How many versions two lists make together.
use Rattle.std.specs.Prelude.{◌≡◌, ◌↔◌, ℕ, ◌+◌, List, length, Contains}
use Rattle.ficus_file.specs.declared.version.Version.{Version}
use Rattle.ficus_merge_files.specs.Versions.{HasVector, IsLatest, AreOrdered, AreMerged, GainsKept}

-- of those of a list that are under neither of two lists, the same have their vectors in these and in those
abbrev pub HaveSameVectors : List Version → List Version → List Version → List Version → List Version → Type 0
HaveSameVectors from mine theirs these those =
    (version : Version) → Contains from version → IsLatest mine theirs version.vector →
    HasVector these version.vector ↔ HasVector those version.vector

-- with those of a list that are under neither of two lists, the old versions are so many more
pub record Grows (from mine theirs old : List Version) (count : ℕ) : Type 0 where
  pub new : List Version
  pub gains : GainsKept from mine theirs old new
  pub ordered : AreOrdered new
  pub long : length new ≡ length old + count

-- so many versions do both make together
pub record MakeSoMany (mine theirs : List Version) (count : ℕ) : Type 0 where
  pub both : List Version
  pub merged : AreMerged mine theirs both
  pub long : length both ≡ count
