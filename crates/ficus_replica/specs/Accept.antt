-- `accept`: what it gives, and which answers a history allows to be taken.
use Rattle.std.specs.Prelude.{◌≡◌, ℕ, ◌+◌, List, [], ◌∷◌, ◌++◌, Result, Ok, Err, Some, None}
use Rattle.ficus_ids.specs.declared.refusal.Refusal.{Refusal}
use Rattle.ficus_ids.specs.declared.refusal.Refusal.TheVariants.{Memory, Stale, BadMessage}
use Rattle.ficus_model.specs.declared.event.Event.{Event}
use Rattle.ficus_model.specs.declared.event.Event.TheVariants.{Ask, Serve, Accept}
use Rattle.ficus_model.specs.Events.{IsAt, through, generation_of}
use Rattle.ficus_model.specs.Lawful.{Volume, MayCome, AnswersOpenAsk}
use Rattle.ficus_entry.specs.Entry.{IsRising}
use Rattle.ficus_entry.specs.declared.entry.Entry.{Entry}
use Rattle.ficus_file.specs.Files.{AreFiles}
use Rattle.ficus_file.specs.declared.file.FileReplica.{FileReplica}
use Rattle.ficus_merge_entries.specs.Merge.{MergesEntries}
use Rattle.ficus_merge_files.specs.Merge.{Fit, AreMergedFiles}
use Rattle.ficus_durable_state.specs.Saved.{HasOwnPast}
use Rattle.ficus_durable_state.specs.declared.saved.Saved.{Saved}
use Rattle.ficus_mentions.specs.Touched.{touched_by}
use Rattle.ficus_held_file_laws.specs.Tables.{AreHeldEntries, AreHeldFiles}
use Rattle.ficus_replica.specs.declared.replica.Replica.{Replica}
use Rattle.ficus_replica.specs.SavedOf.{StandsFor}

-- the open ask is of this peer and number
abbrev pub IsOpen : Replica → ℕ → ℕ → Type 0
IsOpen replica from number = replica.ask ≡ Some (record { to = from; number = number })

-- the tables hold no identifier and no count of the replica's own that it hasn't issued, and their files and the
-- replica's can be merged
pub record MayTake (old : Saved) (entries : List Entry) (files : List FileReplica) : Type 0 where
  pub past : HasOwnPast old.me old.next entries files
  pub fit : Fit old.files files

-- the entries merged, and the files of both by what the merged entries name or lie in
pub record AreTablesMerged (old : Saved) (entries merged : List Entry) (files both : List FileReplica) : Type 0 where
  pub rising : IsRising merged
  pub merges : MergesEntries old.me old.members old.entries entries merged
  pub held : AreFiles both
  pub merges_files : AreMergedFiles (touched_by merged) old.files files both

-- what is saved once these tables are taken: the merged ones, once more
pub record MakesMerged (old : Saved) (entries : List Entry) (files : List FileReplica) (new : Saved) : Type 0 where
  pub merged : List Entry
  pub both : List FileReplica
  pub tables : AreTablesMerged old entries merged files both
  pub saved : new ≡ record old { generation = old.generation + 1; entries = merged; files = both }

-- saved once more, with the merged tables and no open ask, and else as before
pub record Accepted (old : Replica) (from number : ℕ) (entries : List Entry) (files : List FileReplica)
    (new : Replica) : Type 0 where
  pub open_ask : IsOpen old from number
  pub fits : MayTake old.saved entries files
  pub merged : List Entry
  pub both : List FileReplica
  pub tables : AreTablesMerged old.saved entries merged files both
  pub replica : new ≡ record {
    saved = record old.saved { generation = old.saved.generation + 1; entries = merged; files = both };
    ask = None;
  }

-- `stale` where no such ask is open; `badmessage` where the tables don't fit, which takes memory to find; else they are
-- taken
abbrev pub AcceptGives : Replica → ℕ → ℕ → List Entry → List FileReplica → Result Replica Refusal → Type 0
AcceptGives old from number entries files (Ok new) = Accepted old from number entries files new
AcceptGives old from number entries files (Err Stale) = IsOpen old from number → ⊥
AcceptGives old from number entries files (Err BadMessage) =
    IsOpen old from number × (MayTake old.saved entries files → ⊥)
AcceptGives old from number entries files (Err Memory) = IsOpen old from number
AcceptGives old from number entries files (Err other) = ⊥

-- the tables fit and are taken, and no ask is open
pub record Taken (old : Saved) (entries : List Entry) (files : List FileReplica) (new : Replica) : Type 0 where
  pub fits : MayTake old entries files
  pub makes : MakesMerged old entries files new.saved
  pub ask : new.ask ≡ None

-- the same whether or not the tables were asked for
abbrev pub TakeGives : Saved → List Entry → List FileReplica → Result Replica Refusal → Type 0
TakeGives old entries files (Ok new) = Taken old entries files new
TakeGives old entries files (Err BadMessage) = MayTake old entries files → ⊥
TakeGives old entries files (Err Memory) = Unit {0}
TakeGives old entries files (Err other) = ⊥

-- the tables are those that replica s served at a position, in answer to the ask of replica r with this number
pub record IsServed (volume : Volume) (H : List Event) (r s number : ℕ) (entries : List Entry)
    (files : List FileReplica) (serve : ℕ) : Type 0 where
  pub ask : ℕ
  pub state : ℕ
  pub pieces : ℕ
  pub asked : IsAt H ask (Ask r s)
  pub served : IsAt H serve (Serve s ask state pieces)
  pub numbered : number ≡ generation_of r (through ask H)
  pub held : AreHeldEntries volume.members (through serve H) s entries
  pub held_files : AreHeldFiles volume.members (through serve H) s files

-- what was served in answer to the open ask is taken: with whichever piece the history allows its Accept, the new
-- replica stands for the history with that
pub record IsTaken (volume : Volume) (H : List Event) (r serve : ℕ) (new : Replica) : Type 0 where
  pub answers : AnswersOpenAsk H serve r
  pub stands : (piece : ℕ) → MayCome volume H (Accept r serve piece) →
      StandsFor volume (H ++ Accept r serve piece ∷ []) r new

-- what was served is taken where it answers the open ask, and is stale where it doesn't
abbrev pub AcceptStands : Volume → List Event → ℕ → ℕ → Result Replica Refusal → Type 0
AcceptStands volume H r serve (Ok new) = IsTaken volume H r serve new
AcceptStands volume H r serve (Err Stale) = AnswersOpenAsk H serve r → ⊥
AcceptStands volume H r serve (Err Memory) = AnswersOpenAsk H serve r
AcceptStands volume H r serve (Err other) = ⊥
