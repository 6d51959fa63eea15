-- Lists of files.
use Rattle.std.specs.Prelude.{◌≡◌, ◌≢◌, ℕ, List, Option, Some, slice_get, slice_set, Contains}
use Rattle.ficus_ids.specs.declared.id.Id.{Id}
use Rattle.ficus_ids.specs.Rising.{IsRisingBy, HoldsBy, HoldsUnderBy}
use Rattle.ficus_file.specs.declared.file.FileReplica.{FileReplica}
use Rattle.ficus_file.specs.File.{IsWellFormed}

abbrev pub id_of : FileReplica → Id
id_of file = file.id

-- the identifiers rise strictly
abbrev pub IsRising : List FileReplica → Type 0
IsRising files = IsRisingBy id_of files

-- it is well formed, and neither the root, `0.0`, nor the attic, `0.1`
pub record IsSoundFile (file : FileReplica) : Type 0 where
  pub well_formed : IsWellFormed file
  pub not_root : file.id ≢ record { replica = 0; number = 0 }
  pub not_attic : file.id ≢ record { replica = 0; number = 1 }

-- what a replica may hold: the identifiers rise strictly, and each file is sound
pub record AreFiles (files : List FileReplica) : Type 0 where
  pub rising : IsRising files
  pub each : (file : FileReplica) → Contains files file → IsSoundFile file

-- some file of the list has the identifier
abbrev pub Holds : List FileReplica → Id → Type 0
Holds files id = HoldsBy id_of files id

-- what the list holds under the identifier: a file, or nothing
abbrev pub HoldsUnder : List FileReplica → Id → Option FileReplica → Type 0
HoldsUnder files id found = HoldsUnderBy id_of files id found

-- a file with the identifier for which this is true is in the list
pub record HoldsFile (files : List FileReplica) (id : Id) (fits : FileReplica → Type 0) : Type 0 where
  pub file : FileReplica
  pub inside : Contains files file
  pub has_id : file.id ≡ id
  pub fit : fits file

-- the file with the identifier has become another, and all others stay
pub record IsChanged (old new : List FileReplica) (id : Id) (into : FileReplica → FileReplica) : Type 0 where
  pub index : ℕ
  pub file : FileReplica
  pub at : slice_get old index ≡ Some file
  pub has_id : file.id ≡ id
  pub is : new ≡ slice_set old index (into file)
