-- Orphans: objects without a live name that are kept all the same.
use Rattle.std.specs.Prelude.{◌≡◌, ◌⊎◌, ◌↔◌, List, Contains, IsTrue}
use Rattle.ficus_ids.specs.Rising.{HoldsBy, IsRisingBy}
use Rattle.ficus_ids.specs.declared.id.Id.{Id}
use Rattle.ficus_ids.specs.declared.kind.Kind.TheVariants.{Dir}
use Rattle.ficus_entry.specs.Inside.{HasLiveInside, IsNamedBy}
use Rattle.ficus_entry.specs.declared.entry.Entry.{Entry}
use Rattle.ficus_file.specs.File.{HasUncovered}
use Rattle.ficus_file.specs.Version.{HasTwoTexts}
use Rattle.ficus_file.specs.declared.file.FileReplica.{FileReplica}
use Rattle.ficus_orphan.specs.Made.{AreMadeOf}
use Rattle.ficus_file.specs.declared.orphan.Orphan.{Orphan}

-- a directory in which a live entry lies, or a file with a version that isn't covered
abbrev pub IsKept : List Entry → FileReplica → Type 0
IsKept entries file = ((file.kind ≡ Dir) × HasLiveInside entries file.id) ⊎ HasUncovered file

-- no live entry leads to the file or directory, and it is kept
pub record IsOrphanBy (entries : List Entry) (file : FileReplica) : Type 0 where
  pub nameless : IsNamedBy entries file.id → ⊥
  pub kept : IsKept entries file

-- no live entry leads to the object, and it stands among the files as one that is kept
pub record IsOrphanIn (entries : List Entry) (files : List FileReplica) (object : Id) : Type 0 where
  pub nameless : IsNamedBy entries object → ⊥
  pub file : FileReplica
  pub inside : Contains files file
  pub has_id : file.id ≡ object
  pub kept : IsKept entries file

-- it tells the identifier and the kind of the file or directory, and whether it is in conflict
pub record TellsFile (file : FileReplica) (orphan : Orphan) : Type 0 where
  pub id : orphan.id ≡ file.id
  pub kind : orphan.kind ≡ file.kind
  pub conflict : IsTrue orphan.conflict ↔ HasTwoTexts file.versions

-- what is told of a file or directory that is an orphan
pub record TellsOrphan (entries : List Entry) (file : FileReplica) (orphan : Orphan) : Type 0 where
  pub is : IsOrphanBy entries file
  pub told : TellsFile file orphan

-- exactly the orphans among the files, each of which is in the list, by identifier
pub record AreOrphans (entries : List Entry) (files : List FileReplica) (orphans : List Orphan) : Type 0 where
  pub all : AreMadeOf (TellsOrphan entries) files orphans
  pub complete : (object : Id) → IsOrphanIn entries files object →
      HoldsBy (λ (orphan : Orphan). orphan.id) orphans object
  pub rising : IsRisingBy (λ (orphan : Orphan). orphan.id) orphans
