-- Which files a look chooses.
use Rattle.std.specs.Prelude.{◌≡◌, ◌⊎◌, List, Contains}
use Rattle.ficus_ids.specs.Rising.{IsRisingBy}
use Rattle.ficus_ids.specs.declared.id.Id.{Id}
use Rattle.ficus_ids.specs.declared.kind.Kind.TheVariants.{Dir}
use Rattle.ficus_entry.specs.declared.entry.Entry.{Entry}
use Rattle.ficus_file.specs.Version.{HasTwoTexts}
use Rattle.ficus_file.specs.declared.file.FileReplica.{FileReplica}
use Rattle.ficus_orphan.specs.Made.{AreMadeOf}
use Rattle.ficus_orphan.specs.Orphan.{IsKept}

-- the file is so, and has the identifier
abbrev pub IsIdOf : (FileReplica → Type 0) → FileReplica → Id → Type 0
IsIdOf is file id = is file × (file.id ≡ id)

-- exactly the identifiers of those files that are so, rising
pub record AreIdsOf (is : FileReplica → Type 0) (files : List FileReplica) (ids : List Id) : Type 0 where
  pub all : AreMadeOf (IsIdOf is) files ids
  pub rising : IsRisingBy (λ (id : Id). id) ids

-- a directory that is among the named objects and not among the reached ones
pub record IsApart (names reached : List Id) (file : FileReplica) : Type 0 where
  pub directory : file.kind ≡ Dir
  pub named : Contains names file.id
  pub apart : Contains reached file.id → ⊥

-- the file is kept, and isn't among the named objects
pub record IsKeptBesides (entries : List Entry) (names : List Id) (file : FileReplica) : Type 0 where
  pub nameless : Contains names file.id → ⊥
  pub kept : IsKept entries file

-- it is among the named objects, or is kept besides
abbrev pub IsShownBy : List Entry → List Id → FileReplica → Type 0
IsShownBy entries names file = Contains names file.id ⊎ IsKeptBesides entries names file

-- a file with versions that differ in bytes, which is shown
pub record IsClashing (entries : List Entry) (names : List Id) (file : FileReplica) : Type 0 where
  pub conflict : HasTwoTexts file.versions
  pub shown : IsShownBy entries names file
