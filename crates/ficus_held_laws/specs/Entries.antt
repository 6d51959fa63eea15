-- The entries that a replica keeps, each in its state, and what each event makes of them.
use Rattle.std.specs.Prelude.{◌≡◌, ◌⊎◌, ℕ, List, Some, Contains}
use Rattle.std.specs.Bool.{MatchBool}
use Rattle.ficus_ids.specs.declared.id.Id.{Id}
use Rattle.ficus_entry.specs.Entry.{Holds}
use Rattle.ficus_entry.specs.declared.entry.Entry.{Entry as Kept}
use Rattle.ficus_entry.specs.declared.entry.State.{State}
use Rattle.ficus_entry.specs.declared.entry.State.TheVariants.{Live, Dead}
use Rattle.ficus_model.specs.declared.event.Event.{Event}
use Rattle.ficus_model.specs.declared.event.Op.{Op}
use Rattle.ficus_model.specs.Events.{traits}
use Rattle.ficus_model.specs.Held.{IsHeldEntry}
use Rattle.ficus_model.specs.Live.{ModelEntry, entry_of, entered_by, removed_by}
use Rattle.ficus_laws.specs.Updates.{next_number, IsQuiet}
use Rattle.ficus_removal_laws.specs.Marks.{IsAbsent}
use Rattle.ficus_merge_laws.specs.States.{StandsAs, IsKilled}

-- the entry, without its state
abbrev pub place_of : Kept → ModelEntry
place_of entry = entry_of entry.id entry.dir entry.name entry.target

-- the replica holds the entry, and its state is the one that the history gives
pub record IsKeptEntry (members : ℕ) (H : List Event) (replica : ℕ) (entry : Kept) : Type 0 where
  pub held : IsHeldEntry members H replica (place_of entry)
  pub state : StandsAs members H replica entry.id (Some entry.state)

-- the list has only entries that the replica keeps, and where it has none under an identifier the replica holds none
pub record AreKeptEntries (members : ℕ) (H : List Event) (replica : ℕ) (entries : List Kept) : Type 0 where
  pub each : (entry : Kept) → Contains entries entry → IsKeptEntry members H replica entry
  pub absent : (id : Id) → (Holds entries id → ⊥) → IsAbsent members H replica id

-- removed just now by this replica, of which nobody else is known to know
abbrev pub IsJustRemoved : ℕ → State → Type 0
IsJustRemoved replica Live = ⊥
IsJustRemoved replica (Dead one two) = IsKilled replica one two

-- what an update by the replica which removes these entries makes of an entry that was kept or is new
pub record IsSteppedTo (replica : ℕ) (removes : List Id) (entry after : Kept) : Type 0 where
  pub same : place_of after ≡ place_of entry
  pub removed : Contains removes entry.id → IsJustRemoved replica after.state
  pub left : (Contains removes entry.id → ⊥) → after.state ≡ entry.state

-- the update with this number enters the entry, alive
pub record IsNewEntry (number : Id) (op : Op) (entry : Kept) : Type 0 where
  pub enters : entered_by number op ≡ Some (place_of entry)
  pub alive : entry.state ≡ Live

-- an entry that was kept or is new, and what the next update of the replica makes of it
pub record IsFromUpdate (members : ℕ) (H : List Event) (replica : ℕ) (op : Op) (after : Kept) : Type 0 where
  pub entry : Kept
  pub from : IsKeptEntry members H replica entry ⊎ IsNewEntry (next_number replica H) op entry
  pub stepped : IsSteppedTo replica (removed_by (next_number replica H) op) entry after

-- an entry of the list or a new one, as the update of the replica with this number leaves it
pub record IsFromEntry (replica : ℕ) (number : Id) (op : Op) (entries : List Kept) (after : Kept) : Type 0 where
  pub entry : Kept
  pub from : Contains entries entry ⊎ IsNewEntry number op entry
  pub stepped : IsSteppedTo replica (removed_by number op) entry after

-- the list has the entry, as the update leaves it
pub record HasSteppedEntry (replica : ℕ) (number : Id) (op : Op) (entry : Kept) (after : List Kept) : Type 0 where
  pub next : Kept
  pub inside : Contains after next
  pub stepped : IsSteppedTo replica (removed_by number op) entry next

-- the new list is what the update of the replica with this number makes of the old
pub record AreEntriesStepped (replica : ℕ) (number : Id) (op : Op) (entries after : List Kept) : Type 0 where
  pub from : (entry : Kept) → Contains after entry → IsFromEntry replica number op entries entry
  pub all : (entry : Kept) → Contains entries entry ⊎ IsNewEntry number op entry →
      HasSteppedEntry replica number op entry after

-- the event is no update, takes nothing and collects nothing
abbrev pub IsIdle : Event → Type 0
IsIdle event = MatchBool (traits event).collects ⊥ (IsQuiet event)
