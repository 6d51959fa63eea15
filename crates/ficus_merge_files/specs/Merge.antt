-- What the files of two replicas make together.
use Rattle.std.specs.Prelude.{◌≡◌, ◌≤◌, List, length, Option, Some, None, Contains}
use Rattle.ficus_ids.specs.Kind.{sort_of}
use Rattle.ficus_ids.specs.declared.id.Id.{Id}
use Rattle.ficus_vectors.specs.Vector.{join}
use Rattle.ficus_file.specs.declared.file.FileReplica.{FileReplica}
use Rattle.ficus_file.specs.declared.version.Version.{Version}
use Rattle.ficus_file.specs.File.{most_versions}
use Rattle.ficus_file.specs.Files.{HoldsUnder}
use Rattle.ficus_merge_files.specs.Versions.{AreMerged}

-- versions of the two with one vector have the same bytes
abbrev pub AgreeOnBytes : List Version → List Version → Type 0
AgreeOnBytes mine theirs =
    (version other : Version) → Contains mine version → Contains theirs other →
    version.vector ≡ other.vector → version.bytes ≡ other.bytes

-- two files with one identifier can be merged: their kinds are the same, no vector is in both with different bytes,
-- and they make at most as many versions together as such an object has: 8, or one where the text stays
pub record CanMerge (mine theirs : FileReplica) : Type 0 where
  pub kind : mine.kind ≡ theirs.kind
  pub agree : AgreeOnBytes mine.versions theirs.versions
  pub few : (both : List Version) → AreMerged mine.versions theirs.versions both →
      length both ≤ most_versions (sort_of mine.kind)

-- so can all those that are in both lists
pub record Fit (mine theirs : List FileReplica) : Type 0 where
  pub each : (file other : FileReplica) → Contains mine file → Contains theirs other →
      file.id ≡ other.id → CanMerge file other

-- so can the one of theirs with that of mine which has its identifier
pub record FitsAmong (mine : List FileReplica) (other : FileReplica) : Type 0 where
  pub each : (file : FileReplica) → Contains mine file → file.id ≡ other.id → CanMerge file other

-- what two files with one identifier make together
pub record IsMergedFile (mine theirs both : FileReplica) : Type 0 where
  pub id : both.id ≡ mine.id
  pub kind : both.kind ≡ mine.kind
  pub versions : AreMerged mine.versions theirs.versions both.versions
  pub covered : both.covered ≡ join mine.covered theirs.covered

-- a file of theirs alone is taken exactly where its identifier is among those that held entries name or lie in
pub record IsTaken (held : List Id) (theirs : FileReplica) (both : Option FileReplica) : Type 0 where
  pub named : Contains held theirs.id → both ≡ Some theirs
  pub unnamed : (Contains held theirs.id → ⊥) → both ≡ None

-- what stands under an identifier afterwards, by what each replica holds there
abbrev pub Merges : List Id → Option FileReplica → Option FileReplica → Option FileReplica → Type 0
Merges held (Some mine) (Some theirs) (Some both) = IsMergedFile mine theirs both
Merges held (Some mine) (Some theirs) None = ⊥
Merges held (Some mine) None both = both ≡ Some mine
Merges held None (Some theirs) both = IsTaken held theirs both
Merges held None None both = both ≡ None

-- and so under each identifier
pub record AreMergedFiles (held : List Id) (mine theirs both : List FileReplica) : Type 0 where
  pub each : (id : Id) (at_mine at_theirs at_both : Option FileReplica) →
      HoldsUnder mine id at_mine → HoldsUnder theirs id at_theirs → HoldsUnder both id at_both →
      Merges held at_mine at_theirs at_both
