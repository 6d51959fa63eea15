-- What entries and files of tables are for a history.
use Rattle.std.specs.Prelude.{ℕ, List, map, Contains}
use Rattle.ficus_vectors.specs.Vector.{count_of}
use Rattle.ficus_entry.specs.Entry.{IsRising as AreRisingEntries}
use Rattle.ficus_entry.specs.declared.entry.Entry.{Entry}
use Rattle.ficus_file.specs.Files.{IsRising as AreRisingFiles}
use Rattle.ficus_file.specs.declared.file.FileReplica.{FileReplica}
use Rattle.ficus_model.specs.declared.event.Event.{Event}
use Rattle.ficus_merge_files.specs.Versions.{AreOrdered}
use Rattle.ficus_held_laws.specs.Entries.{AreKeptEntries}
use Rattle.ficus_held_laws.specs.Objects.{KeptObject, AreKeptObjects}
use Rattle.ficus_file_laws.specs.Items.{items_of}

-- a file or a directory, in the terms of the laws of what a replica holds
abbrev pub object_of : FileReplica → KeptObject
object_of file =
    record { id = file.id; kind = file.kind; versions = items_of file.versions; cover = count_of file.covered }

-- each of them
abbrev pub objects_of : List FileReplica → List KeptObject
objects_of files = map object_of files

-- the entries are those that the replica holds after the history, by identifier
pub record AreHeldEntries (members : ℕ) (H : List Event) (replica : ℕ) (entries : List Entry) : Type 0 where
  pub rising : AreRisingEntries entries
  pub kept : AreKeptEntries members H replica entries

-- the files are the objects that the replica holds after the history, by identifier, and the versions of each are in
-- the order of vectors
pub record AreHeldFiles (members : ℕ) (H : List Event) (replica : ℕ) (files : List FileReplica) : Type 0 where
  pub rising : AreRisingFiles files
  pub ordered : (file : FileReplica) → Contains files file → AreOrdered file.versions
  pub kept : AreKeptObjects members H replica (objects_of files)
