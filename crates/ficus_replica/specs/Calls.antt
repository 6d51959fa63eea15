-- What calls that take tables ask for and promise, by name.
use Rattle.std.specs.Prelude.{ℕ, ◌-◌, ◌^◌, ◌<◌, List, Result, IfOk}
use Rattle.ficus_ids.specs.declared.refusal.Refusal.{Refusal}
use Rattle.ficus_model.specs.Lawful.{Volume, IsLawful}
use Rattle.ficus_model.specs.declared.event.Event.{Event}
use Rattle.ficus_entry.specs.declared.entry.Entry.{Entry}
use Rattle.ficus_file.specs.declared.file.FileReplica.{FileReplica}
use Rattle.ficus_durable_state.specs.Saved.{FitsImage}
use Rattle.ficus_durable_state.specs.Tables.{FitsTables}
use Rattle.ficus_durable_state.specs.declared.saved.Saved.{Saved}
use Rattle.ficus_record.specs.declared.record.Record.TheVariants.{Accept as Noted}
use Rattle.ficus_replica.specs.declared.replica.Replica.{Replica}
use Rattle.ficus_replica.specs.Accept.{AcceptGives, AcceptStands, IsServed}
use Rattle.ficus_replica.specs.Makes.{IsNoted}
use Rattle.ficus_replica.specs.SavedOf.{StandsFor}

-- these are tables of as many members, and what is saved fits an image, as it does once more
pub record FitsTaking (old : Saved) (entries : List Entry) (files : List FileReplica) : Type 0 where
  pub fits : FitsImage old
  pub tables : FitsTables old.members entries files
  pub generation : old.generation < 2 ^ 63 - 1

-- Tables that came in answer to the ask of this number are taken, or refused. The record of their taking makes the same
-- of what was saved. Where they are what the peer served, the replica stands for a history in which it took them.
pub record Accepts (old : Replica) (from number : ℕ) (entries : List Entry) (files : List FileReplica)
    (result : Result Replica Refusal) : Type 0 where
  pub gives : AcceptGives old from number entries files result
  pub fits : IfOk result (λ replica. FitsImage replica.saved)
  pub noted : IfOk result (λ replica. IsNoted old.saved (Noted entries files) replica.saved)
  pub stands : (volume : Volume) (H : List Event) (serve : ℕ) → IsLawful volume H
      → StandsFor volume H old.saved.me old → IsServed volume H old.saved.me from number entries files serve
      → AcceptStands volume H old.saved.me serve result
