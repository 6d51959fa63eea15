-- What an operation makes of what a replica saves.
use Rattle.std.specs.Prelude.{◌≡◌, ◌≢◌, ℕ, ◌+◌, ◌≤◌, List, length, Contains, codes, Option, Some, None, IfSome}
use Rattle.ficus_ids.specs.Name.{IsName}
use Rattle.ficus_ids.specs.Rising.{IsRisingBy}
use Rattle.ficus_ids.specs.declared.id.Id.{Id}
use Rattle.ficus_ids.specs.declared.id.TheConstants.{ATTIC}
use Rattle.ficus_ids.specs.Kind.{sort_of, FitsKind}
use Rattle.ficus_ids.specs.declared.kind.Kind.{Kind}
use Rattle.ficus_ids.specs.declared.kind.Sort.TheVariants.{Versioned}
use Rattle.ficus_entry.specs.Entry.{IsRising}
use Rattle.ficus_entry.specs.Kill.{HoldsLive}
use Rattle.ficus_entry.specs.declared.entry.Entry.{Entry}
use Rattle.ficus_file.specs.Files.{AreFiles, Holds, HoldsFile}
use Rattle.ficus_file.specs.declared.file.FileReplica.{FileReplica}
use Rattle.ficus_model.specs.declared.event.Op.{Op}
use Rattle.ficus_model.specs.declared.event.Op.TheVariants.{Make, Link, Remove, Move, Write, Settle, Resolve, Adopt, Discard}
use Rattle.ficus_model.specs.Live.{ModelEntry, entry_of}
use Rattle.ficus_model.specs.Versions.{bytes_of}
use Rattle.ficus_durable_state.specs.Laws.{FitsReplica}
use Rattle.ficus_durable_state.specs.Tables.{IsPlaceIn}
use Rattle.ficus_durable_state.specs.declared.saved.Saved.{Saved}
use Rattle.ficus_durable_state.specs.Limits.{file_limit}
use Rattle.ficus_held_laws.specs.Entries.{AreEntriesStepped}
use Rattle.ficus_held_laws.specs.Objects.{AreObjectsStepped}
use Rattle.ficus_held_file_laws.specs.Tables.{objects_of}

-- the number of the replica's next update
abbrev pub next_id : Saved → Id
next_id saved = record { replica = saved.me; number = saved.next }

-- the entry that a Discard with this number enters
abbrev pub attic_place : Id → Id → ModelEntry
attic_place number file = entry_of number ATTIC (codes "discarded") file

-- the entries and files are what the next update of the replica makes of those that it holds
pub record AreStepped (old : Saved) (op : Op) (entries : List Entry) (files : List FileReplica) : Type 0 where
  pub rising : IsRising entries
  pub stepped : AreEntriesStepped old.me (next_id old) op old.entries entries
  pub held : AreFiles files
  pub stepped_files : AreObjectsStepped old.me (next_id old) op (objects_of old.files) (objects_of files)

-- and they fit for one more update of the replica
pub record IsStepped (old : Saved) (op : Op) (entries : List Entry) (files : List FileReplica) : Type 0 where
  pub stepped : AreStepped old op entries files
  pub fits : FitsReplica old.members old.me (old.next + 1) entries files

-- the operation done: these tables, one more update, so many bytes more, and one more save
pub record Applied (old : Saved) (op : Op) (new : Saved) : Type 0 where
  pub entries : List Entry
  pub files : List FileReplica
  pub stepped : AreStepped old op entries files
  pub saved : new ≡ record old {
    next = old.next + 1;
    used = old.used + length (bytes_of op);
    generation = old.generation + 1;
    entries = entries;
    files = files;
  }

-- a new entry may lie in the directory
pub record MayMake (old : Saved) (dir : Id) : Type 0 where
  pub place : IsPlaceIn old.files dir
  pub no_attic : dir ≢ ATTIC

-- so may one that leads to a new object of the kind with this text, and so many bytes are left to the replica
pub record MayMakeObject (old : Saved) (dir : Id) (kind : Kind) (text : List ℕ) : Type 0 where
  pub lies : MayMake old dir
  pub fits : FitsKind kind text
  pub left : old.used + length text ≤ old.bytes

-- the file is held, its versions change, and so many bytes fit it and are left to the replica
pub record MayWrite (old : Saved) (file : Id) (bytes : List ℕ) : Type 0 where
  pub held : HoldsFile old.files file (λ held. sort_of held.kind ≡ Versioned)
  pub one_file : length bytes ≤ file_limit
  pub left : old.used + length bytes ≤ old.bytes

-- so may one in the directory that leads to an object, which is held
pub record MayLink (old : Saved) (dir target : Id) : Type 0 where
  pub lies : MayMake old dir
  pub held : Holds old.files target

-- each of the entries is live and named once, and what they lead to is held
pub record MayRemove (old : Saved) (entries : List Id) (target : Id) : Type 0 where
  pub live : (id : Id) → Contains entries id → HoldsLive old.entries id
  pub rising : IsRisingBy (λ (id : Id). id) entries
  pub held : Holds old.files target

-- they may be removed, and a new entry may lie in the directory
pub record MayMove (old : Saved) (entries : List Id) (dir target : Id) : Type 0 where
  pub removes : MayRemove old entries target
  pub lies : MayMake old dir

-- the operation gives the object this name in the directory, and takes no name from it
pub data GivesName : Op → Id → List ℕ → Id → Type 0 where
  Links : {dir target : Id} {name : List ℕ} → GivesName (Link dir name target) dir name target
  Adopts : {dir file : Id} {name : List ℕ} → GivesName (Adopt file dir name) dir name file

-- what is done is possible in the replica's tables
abbrev pub IsPossible : Saved → Op → Type 0
IsPossible old (Make dir name kind text) = MayMakeObject old dir kind text
IsPossible old (Write file bytes) = MayWrite old file bytes
IsPossible old (Settle file bytes) = MayWrite old file bytes
IsPossible old (Resolve file bytes) = MayWrite old file bytes
IsPossible old (Link dir name target) = MayLink old dir target
IsPossible old (Remove entries target) = MayRemove old entries target
IsPossible old (Move entries dir name target) = MayMove old entries dir target
IsPossible old (Adopt file dir name) = MayLink old dir file
IsPossible old (Discard file) = Holds old.files file

-- and an update is left for it
pub record IsReady (old : Saved) (op : Op) : Type 0 where
  pub left : old.next ≤ old.ids
  pub possible : IsPossible old op

-- the name that the operation gives, if it gives one
abbrev pub name_given : Op → Option (List ℕ)
name_given (Make dir called kind text) = Some called
name_given (Link dir called target) = Some called
name_given (Remove entries target) = None
name_given (Move entries dir called target) = Some called
name_given (Write file bytes) = None
name_given (Settle file bytes) = None
name_given (Resolve file bytes) = None
name_given (Adopt file dir called) = Some called
name_given (Discard file) = None

-- it is a name
abbrev pub HasName : Op → Type 0
HasName op = IfSome (name_given op) IsName
