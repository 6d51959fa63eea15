-- What an image asks of what a replica saves.
use Rattle.std.specs.Prelude.{◌≡◌, ℕ, ◌+◌, ◌^◌, ◌<◌, ◌≤◌, List, All, Contains}
use Rattle.ficus_ids.specs.Members.{IsCount, IsMember}
use Rattle.ficus_ids.specs.declared.id.Id.{Id}
use Rattle.ficus_vectors.specs.Vector.{count_of}
use Rattle.ficus_entry.specs.declared.entry.Entry.{Entry}
use Rattle.ficus_file.specs.declared.file.FileReplica.{FileReplica}
use Rattle.ficus_file.specs.declared.version.Version.{Version}
use Rattle.ficus_durable_state.specs.declared.saved.Saved.{Saved}
use Rattle.ficus_durable_state.specs.Limits.{update_limit, byte_limit}
use Rattle.ficus_durable_state.specs.Tables.{FitsTables}

-- an identifier of this replica's own is of an update that it has made
abbrev pub IsOfPast : ℕ → ℕ → Id → Type 0
IsOfPast me next id = id.replica ≡ me → id.number < next

-- each identifier in the entry that is of this replica is of an update that it has made
pub record IsEntryOfPast (me next : ℕ) (entry : Entry) : Type 0 where
  pub id : IsOfPast me next entry.id
  pub dir : IsOfPast me next entry.dir
  pub target : IsOfPast me next entry.target

-- so is the file's identifier, and its versions and its cover count no other updates of this replica
pub record IsFileOfPast (me next : ℕ) (file : FileReplica) : Type 0 where
  pub id : IsOfPast me next file.id
  pub versions : (version : Version) → Contains file.versions version → count_of version.vector me < next
  pub covered : count_of file.covered me < next

-- the tables hold no identifier and no count of this replica's own of an update that it hasn't made
pub record HasOwnPast (me next : ℕ) (entries : List Entry) (files : List FileReplica) : Type 0 where
  pub each : All (IsEntryOfPast me next) entries
  pub each_file : All (IsFileOfPast me next) files

pub record FitsImage (saved : Saved) : Type 0 where
  pub members : IsCount saved.members
  pub me : IsMember saved.members saved.me
  pub ids_at_least : 1 ≤ saved.ids
  pub ids_at_most : saved.ids ≤ update_limit
  pub bytes : saved.bytes ≤ byte_limit
  pub next_at_least : 1 ≤ saved.next
  pub next_at_most : saved.next ≤ saved.ids + 1
  pub used : saved.used ≤ saved.bytes
  pub generation : saved.generation < 2 ^ 63
  pub tables : FitsTables saved.members saved.entries saved.files
  pub past : HasOwnPast saved.me saved.next saved.entries saved.files
