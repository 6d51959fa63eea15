-- The laws, as the law functions state them.
use Rattle.std.specs.Prelude.{◌≡◌, ◌↔◌, ◌≤◌, ℕ, List, ◌∷◌, [], ◌++◌, Contains}
use Rattle.ficus_ids.specs.Members.{IsMember}
use Rattle.ficus_ids.specs.declared.id.Id.{Id}
use Rattle.ficus_ids.specs.declared.kind.Kind.{Kind}
use Rattle.ficus_ids.specs.Rising.{Adds}
use Rattle.ficus_vectors.specs.Vector.{count_of}
use Rattle.ficus_entry.specs.declared.entry.Entry.{Entry}
use Rattle.ficus_entry.specs.declared.entry.State.TheVariants.{Live, Dead}
use Rattle.ficus_file.specs.File.{HasUncovered, made_file, advanced, covered_file}
use Rattle.ficus_file.specs.Files.{AreFiles, Holds, IsChanged}
use Rattle.ficus_file.specs.declared.file.FileReplica.{FileReplica}
use Rattle.ficus_file.specs.declared.version.Version.{Version}
use Rattle.ficus_model.specs.declared.event.Event.{Event}
use Rattle.ficus_model.specs.declared.event.Event.TheVariants.{Accept}
use Rattle.ficus_model.specs.declared.event.Op.{Op}
use Rattle.ficus_model.specs.declared.event.Op.TheVariants.{Make, Link, Move, Write, Settle, Resolve, Adopt}
use Rattle.ficus_model.specs.Events.{IsOf, through, count_of as updates_of}
use Rattle.ficus_model.specs.Known.{Knows}
use Rattle.ficus_model.specs.Held.{IsHeldEntry}
use Rattle.ficus_model.specs.Lawful.{Volume, IsLawful}
use Rattle.ficus_model.specs.Live.{IsLive, IsMade, HasName}
use Rattle.ficus_model.specs.View.{HasUnseen, IsOrphan}
use Rattle.ficus_laws.specs.Updates.{IsIssued}
use Rattle.ficus_merge_files.specs.Merge.{Fit, AreMergedFiles}
use Rattle.ficus_version_laws.specs.Operations.{GivesUp}
use Rattle.ficus_removal_laws.specs.Laws.{IsAnswer}
use Rattle.ficus_removal_laws.specs.Marks.{IsMarked}
use Rattle.ficus_held_laws.specs.Entries.{place_of}
use Rattle.ficus_held_laws.specs.Objects.{AreObjectsStepped, IsTouched}
use Rattle.ficus_file_laws.specs.Items.{AreVersionsOf}
use Rattle.ficus_held_file_laws.specs.Tables.{objects_of, AreHeldEntries, AreHeldFiles}

-- a replica holds one list of entries
abbrev pub OneListOfEntries : Type 0
OneListOfEntries = (members : ℕ) (H : List Event) (replica : ℕ) (entries others : List Entry) →
    AreHeldEntries members H replica entries → AreHeldEntries members H replica others → entries ≡ others

-- and one list of files
abbrev pub OneListOfFiles : Type 0
OneListOfFiles = (members : ℕ) (H : List Event) (replica : ℕ) (files others : List FileReplica) →
    AreHeldFiles members H replica files → AreHeldFiles members H replica others → files ≡ others

-- a live entry is in the list exactly where it is alive for the replica
abbrev pub LiveEntriesAreListed : Type 0
LiveEntriesAreListed = (volume : Volume) (H : List Event) (replica : ℕ) (entries : List Entry) (entry : Entry) →
    IsLawful volume H → IsMember volume.members replica → AreHeldEntries volume.members H replica entries →
    entry.state ≡ Live → Contains entries entry ↔ IsLive H (Knows H replica) (place_of entry)

-- a file of the list is made, and has the versions that are shown
pub record IsKnownFile (H : List Event) (U : ℕ → Type 0) (file : FileReplica) : Type 0 where
  pub made : IsMade H U file.id file.kind
  pub versions : AreVersionsOf H U file.id file.versions

abbrev pub ListedFilesAreKnown : Type 0
ListedFilesAreKnown = (members : ℕ) (H : List Event) (replica : ℕ) (files : List FileReplica) (file : FileReplica) →
    AreHeldFiles members H replica files → Contains files file → IsKnownFile H (Knows H replica) file

-- the list has a file or a directory of this identifier and kind
pub record ListsObject (files : List FileReplica) (object : Id) (kind : Kind) : Type 0 where
  pub file : FileReplica
  pub inside : Contains files file
  pub has_id : file.id ≡ object
  pub of_kind : file.kind ≡ kind

-- each object with a live name is in the list
abbrev pub NamedObjectsAreListed : Type 0
NamedObjectsAreListed = (volume : Volume) (H : List Event) (replica : ℕ) (files : List FileReplica) (object : Id)
    (kind : Kind) → IsLawful volume H → IsMember volume.members replica →
    AreHeldFiles volume.members H replica files → HasName H (Knows H replica) object →
    IsMade H (Knows H replica) object kind → ListsObject files object kind

-- so is each orphan
abbrev pub OrphansAreListed : Type 0
OrphansAreListed = (volume : Volume) (H : List Event) (replica : ℕ) (files : List FileReplica) (object : Id)
    (kind : Kind) → IsLawful volume H → IsMember volume.members replica →
    AreHeldFiles volume.members H replica files → IsOrphan H (Knows H replica) object →
    IsMade H (Knows H replica) object kind → ListsObject files object kind

-- a file of the list has a version that no known Remove or Discard had heard of exactly where its cover leaves one out
abbrev pub UnseenAreUncovered : Type 0
UnseenAreUncovered = (volume : Volume) (H : List Event) (replica : ℕ) (files : List FileReplica)
    (file : FileReplica) → IsLawful volume H → AreHeldFiles volume.members H replica files → Contains files file →
    HasUnseen H (Knows H replica) file.id ↔ HasUncovered file

-- a removed entry is in the list with two sets exactly where the replica holds it, and the sets are those that the
-- history gives
abbrev pub RemovedEntriesAreListed : Type 0
RemovedEntriesAreListed = (members : ℕ) (H : List Event) (replica : ℕ) (entries : List Entry) (entry : Entry)
    (one two : ℕ) → AreHeldEntries members H replica entries → entry.state ≡ Dead one two →
    Contains entries entry ↔
    (IsHeldEntry members H replica (place_of entry) × IsMarked members H replica entry.id one two)

-- what a Make makes of the files, in the terms of the laws
abbrev pub MakeStepsFiles : Type 0
MakeStepsFiles = (by : ℕ) (number dir : Id) (name : List ℕ) (kind : Kind) (text : List ℕ)
    (files after : List FileReplica) →
    1 ≤ by → by ≤ 8 → (Holds files number → ⊥) → Adds files after (made_file number kind by text) →
    AreObjectsStepped by number (Make dir name kind text) (objects_of files) (objects_of after)

-- the operation gives a file, which it doesn't make, these bytes
pub data Overwrites : Op → Id → List ℕ → Type 0 where
  Writes : {file : Id} {bytes : List ℕ} → Overwrites (Write file bytes) file bytes
  Settles : {file : Id} {bytes : List ℕ} → Overwrites (Settle file bytes) file bytes
  Resolves : {file : Id} {bytes : List ℕ} → Overwrites (Resolve file bytes) file bytes

-- and what such an operation makes of them
abbrev pub WriteStepsFiles : Type 0
WriteStepsFiles = (by : ℕ) (number : Id) (op : Op) (file : Id) (bytes : List ℕ) (files after : List FileReplica) →
    1 ≤ by → by ≤ 8 → AreFiles files → Overwrites op file bytes → IsChanged files after file (advanced by bytes) →
    AreObjectsStepped by number op (objects_of files) (objects_of after)

-- and what an operation makes of them that gives a file up
abbrev pub CoverStepsFiles : Type 0
CoverStepsFiles = (by : ℕ) (number : Id) (op : Op) (file : Id) (files after : List FileReplica) →
    AreFiles files → GivesUp op file → IsChanged files after file covered_file →
    AreObjectsStepped by number op (objects_of files) (objects_of after)

-- the operation gives an object that there is one more name
pub data Names : Op → Type 0 where
  Links : {dir target : Id} {name : List ℕ} → Names (Link dir name target)
  Moves : {entries : List Id} {dir target : Id} {name : List ℕ} → Names (Move entries dir name target)
  Adopts : {dir file : Id} {name : List ℕ} → Names (Adopt file dir name)

-- and such an operation leaves the files as they are
abbrev pub NameStepsFiles : Type 0
NameStepsFiles = (by : ℕ) (number : Id) (op : Op) (files : List FileReplica) → Names op →
    AreObjectsStepped by number op (objects_of files) (objects_of files)

-- where a member served after a lawful history, its files and those that any replica then holds can be merged
abbrev pub AnswersFit : Type 0
AnswersFit = (volume : Volume) (H : List Event) (replica served server : ℕ) (mine theirs : List FileReplica) →
    IsLawful volume H → IsOf H served server →
    AreHeldFiles volume.members H replica mine → AreHeldFiles volume.members (through served H) server theirs →
    volume.members ≤ 8 → Fit mine theirs

-- the identifiers are those that the entries name or lie in
abbrev pub AreTouched : List Entry → List Id → Type 0
AreTouched entries ids = (id : Id) → Contains ids id ↔ IsTouched entries id

-- and their merge are the files that the replica then holds
abbrev pub AcceptMergesFiles : Type 0
AcceptMergesFiles = (volume : Volume) (H : List Event) (replica served piece server : ℕ) (entries : List Entry)
    (touched : List Id) (mine theirs both : List FileReplica) → IsAnswer volume H replica served piece server →
    AreHeldEntries volume.members (H ++ Accept replica served piece ∷ []) replica entries → AreTouched entries touched →
    AreHeldFiles volume.members H replica mine → AreHeldFiles volume.members (through served H) server theirs →
    AreFiles both → AreMergedFiles touched mine theirs both →
    AreHeldFiles volume.members (H ++ Accept replica served piece ∷ []) replica both

-- each number in a file is of an update that its replica has made, and each count at most so many
pub record IsFileOfHistory (H : List Event) (file : FileReplica) : Type 0 where
  pub id : IsIssued H file.id
  pub versions : (version : Version) → Contains file.versions version →
      (replica : ℕ) → count_of version.vector replica ≤ updates_of replica H
  pub covered : (replica : ℕ) → count_of file.covered replica ≤ updates_of replica H

abbrev pub FilesAreOfHistory : Type 0
FilesAreOfHistory = (members : ℕ) (H : List Event) (replica : ℕ) (files : List FileReplica) (file : FileReplica) →
    AreHeldFiles members H replica files → Contains files file → IsFileOfHistory H file
