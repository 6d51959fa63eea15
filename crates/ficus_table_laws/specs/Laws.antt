-- That there are tables, as the law functions state it.
use Rattle.std.specs.Prelude.{ℕ, List}
use Rattle.ficus_ids.specs.Members.{IsCount}
use Rattle.ficus_entry.specs.declared.entry.Entry.{Entry}
use Rattle.ficus_file.specs.declared.file.FileReplica.{FileReplica}
use Rattle.ficus_model.specs.declared.event.Event.{Event}
use Rattle.ficus_model.specs.Lawful.{Volume, IsLawful}
use Rattle.ficus_held_file_laws.specs.Tables.{AreHeldEntries, AreHeldFiles}

-- some list has the entries that the replica holds
pub record HasEntries (members : ℕ) (H : List Event) (replica : ℕ) : Type 0 where
  pub entries : List Entry
  pub are : AreHeldEntries members H replica entries

-- and some the files
pub record HasFiles (members : ℕ) (H : List Event) (replica : ℕ) : Type 0 where
  pub files : List FileReplica
  pub are : AreHeldFiles members H replica files

-- after a lawful history there is a list of the entries that a replica holds
abbrev pub EntriesExist : Type 0
EntriesExist = (volume : Volume) (H : List Event) (replica : ℕ) → IsLawful volume H →
    HasEntries volume.members H replica

-- and one of the files, where the members are as many as a vector has counts of
abbrev pub FilesExist : Type 0
FilesExist = (volume : Volume) (H : List Event) (replica : ℕ) → IsCount volume.members → IsLawful volume H →
    HasFiles volume.members H replica
