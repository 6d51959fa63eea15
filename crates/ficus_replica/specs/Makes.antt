-- What a record makes of what a replica saves, and which records fit it.
use Rattle.std.specs.Prelude.{◌≡◌, ◌≢◌, ◌⊎◌, ◌-◌, ◌^◌, ◌<◌, ◌≤◌, ◌+◌, ℕ, List, [], length, Contains}
use Rattle.ficus_ids.specs.declared.id.Id.{Id}
use Rattle.ficus_ids.specs.declared.id.TheConstants.{ROOT}
use Rattle.ficus_ids.specs.declared.kind.Kind.TheVariants.{Dir}
use Rattle.ficus_entry.specs.declared.entry.Entry.{Entry}
use Rattle.ficus_entry.specs.declared.entry.State.TheVariants.{Live}
use Rattle.ficus_file.specs.Files.{Holds, HoldsFile}
use Rattle.ficus_file.specs.declared.orphan.Orphan.{Orphan}
use Rattle.ficus_collection.specs.Reclaim.{IsReclaimed}
use Rattle.ficus_collection.specs.declared.reclaiming.Reclaimed.{Reclaimed}
use Rattle.ficus_model.specs.declared.event.Op.{Op}
use Rattle.ficus_model.specs.declared.event.Op.TheVariants.{Make, Link, Remove, Move, Write, Settle, Resolve, Adopt, Discard}
use Rattle.ficus_orphan.specs.Orphan.{AreOrphans}
use Rattle.ficus_record.specs.Record.{FitsRecord}
use Rattle.ficus_record.specs.declared.record.Record.{Record}
use Rattle.ficus_record.specs.declared.record.Record.TheVariants.{Change, Ask, Accept, Collect}
use Rattle.ficus_durable_state.specs.Saved.{FitsImage}
use Rattle.ficus_durable_state.specs.declared.saved.Saved.{Saved}
use Rattle.ficus_replica.specs.Accept.{MakesMerged, MayTake}
use Rattle.ficus_replica.specs.Effect.{Applied, MayWrite}

-- saved once more, and else as before
abbrev pub once_more : Saved → Saved
once_more old = record old { generation = old.generation + 1 }

-- what is saved after a collection: what is left of the tables where the orphans stay, once more
pub record MakesCollected (old new : Saved) : Type 0 where
  pub orphans : List Orphan
  pub are : AreOrphans old.entries old.files orphans
  pub reclaimed : Reclaimed
  pub left : IsReclaimed old.members old.entries old.files orphans reclaimed
  pub saved : new ≡ record old {
    generation = old.generation + 1;
    entries = reclaimed.entries;
    files = reclaimed.files;
  }

-- what the record makes of what was saved
abbrev pub Makes : Saved → Record → Saved → Type 0
Makes old (Change op) new = Applied old op new
Makes old Ask new = new ≡ once_more old
Makes old (Accept entries files) new = MakesMerged old entries files new
Makes old Collect new = MakesCollected old new

-- new entries may lie in the directory: the root, or one that is held
abbrev pub IsPlace : Saved → Id → Type 0
IsPlace old dir = (dir ≡ ROOT) ⊎ HoldsFile old.files dir (λ held. held.kind ≡ Dir)

-- a file that is held
abbrev pub IsFile : Saved → Id → Type 0
IsFile old file = HoldsFile old.files file (λ held. held.kind ≢ Dir)

-- there is a live entry with this identifier, and it leads to the target
pub record IsNameOf (old : Saved) (target id : Id) : Type 0 where
  pub entry : Entry
  pub inside : Contains old.entries entry
  pub has_id : entry.id ≡ id
  pub live : entry.state ≡ Live
  pub leads : entry.target ≡ target

-- there is an entry, and each of them is live and leads to the target
pub record AreNames (old : Saved) (entries : List Id) (target : Id) : Type 0 where
  pub some : entries ≢ []
  pub each : (id : Id) → Contains entries id → IsNameOf old target id

-- new entries may lie in the directory, and so many bytes are left
pub record MakesIn (old : Saved) (dir : Id) (text : List ℕ) : Type 0 where
  pub place : IsPlace old dir
  pub left : old.used + length text ≤ old.bytes

-- the operation fits the tables that are held
abbrev pub FitsOpIn : Saved → Op → Type 0
FitsOpIn old (Make dir called kind text) = MakesIn old dir text
FitsOpIn old (Link dir called target) = IsPlace old dir × IsFile old target
FitsOpIn old (Remove entries target) = AreNames old entries target
FitsOpIn old (Move entries dir called target) = AreNames old entries target × IsPlace old dir
FitsOpIn old (Write file bytes) = MayWrite old file bytes
FitsOpIn old (Settle file bytes) = MayWrite old file bytes
FitsOpIn old (Resolve file bytes) = MayWrite old file bytes
FitsOpIn old (Adopt file dir called) = IsPlace old dir × Holds old.files file
FitsOpIn old (Discard file) = IsFile old file

-- and an update is left for it
pub record FitsUpdate (old : Saved) (op : Op) : Type 0 where
  pub left : old.next ≤ old.ids
  pub fits : FitsOpIn old op

-- the event fits what was saved
abbrev pub FitsIn : Saved → Record → Type 0
FitsIn old (Change op) = FitsUpdate old op
FitsIn old Ask = Unit {0}
FitsIn old (Accept entries files) = MayTake old entries files
FitsIn old Collect = Unit {0}

-- the record fits what was saved
pub record IsFit (old : Saved) (noted : Record) : Type 0 where
  pub generation : old.generation < 2 ^ 63 - 1
  pub fits : FitsIn old noted

-- the record has a spelling, it fits what was saved, and this is what it makes of it, which may be saved in turn
pub record IsNoted (old : Saved) (noted : Record) (new : Saved) : Type 0 where
  pub spelled : FitsRecord old.members noted
  pub fit : IsFit old noted
  pub makes : Makes old noted new
  pub fits : FitsImage new
