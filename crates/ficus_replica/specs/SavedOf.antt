-- What it means that a replica stands for a history.
use Rattle.std.specs.Prelude.{◌≡◌, ℕ, ◌+◌, List, ◌∷◌, [], ◌++◌, Option, Some, None}
use Rattle.ficus_ids.specs.Members.{IsMember}
use Rattle.ficus_model.specs.declared.event.Event.{Event}
use Rattle.ficus_model.specs.Events.{count_of, generation_of, through}
use Rattle.ficus_model.specs.Lawful.{Volume, IsOpenAsk, MayCome}
use Rattle.ficus_model.specs.Versions.{written_of}
use Rattle.ficus_durable_state.specs.declared.saved.Saved.{Saved}
use Rattle.ficus_held_file_laws.specs.Tables.{AreHeldEntries, AreHeldFiles}
use Rattle.ficus_replica.specs.declared.replica.Asked.{Asked}
use Rattle.ficus_replica.specs.declared.replica.Replica.{Replica}

-- what the replica, a member, saves after the history
pub record IsSavedOf (volume : Volume) (H : List Event) (replica : ℕ) (saved : Saved) : Type 0 where
  pub member : IsMember volume.members replica
  pub me : saved.me ≡ replica
  pub members : saved.members ≡ volume.members
  pub ids : saved.ids ≡ volume.ids
  pub bytes : saved.bytes ≡ volume.bytes
  pub next : saved.next ≡ count_of replica H + 1
  pub used : saved.used ≡ written_of replica H
  pub generation : saved.generation ≡ generation_of replica H
  pub entries : AreHeldEntries volume.members H replica saved.entries
  pub files : AreHeldFiles volume.members H replica saved.files

-- what a replica saves that has heard of nothing
abbrev pub fresh_saved : Volume → ℕ → Saved
fresh_saved volume replica = record {
  me = replica;
  members = volume.members;
  ids = volume.ids;
  bytes = volume.bytes;
  next = 1;
  used = 0;
  generation = 0;
  entries = [];
  files = [];
}

-- the ask that the replica waits for an answer to
abbrev pub IsOpenAskOf : List Event → ℕ → Option Asked → Type 0
IsOpenAskOf H replica None = (position to : ℕ) → IsOpenAsk H position replica to → ⊥
IsOpenAskOf H replica (Some asked) =
    (position : ℕ) × IsOpenAsk H position replica asked.to × (asked.number ≡ generation_of replica (through position H))

-- the replica stands for the history
pub record StandsFor (volume : Volume) (H : List Event) (number : ℕ) (replica : Replica) : Type 0 where
  pub saved : IsSavedOf volume H number replica.saved
  pub ask : IsOpenAskOf H number replica.ask

-- the event may come, and the new replica stands for the history with it
pub record StandsAfter (volume : Volume) (H : List Event) (r : ℕ) (event : Event) (new : Replica) : Type 0 where
  pub lawful : MayCome volume H event
  pub stands : StandsFor volume (H ++ event ∷ []) r new
