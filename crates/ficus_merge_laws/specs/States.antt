-- What stands at a replica under an identifier, by the history: its state in the terms of the merge table.
use Rattle.std.specs.Prelude.{◌≡◌, ◌↔◌, ℕ, List, Option, Some, None, IfSome, IsTrue, Contains}
use Rattle.std.specs.Bool.{MatchBool}
use Rattle.ficus_ids.specs.Marks.{has, IsFull}
use Rattle.ficus_ids.specs.declared.id.Id.{Id}
use Rattle.ficus_entry.specs.declared.entry.State.{State}
use Rattle.ficus_entry.specs.declared.entry.State.TheVariants.{Live, Dead}
use Rattle.ficus_model.specs.declared.event.Event.{Event}
use Rattle.ficus_model.specs.declared.event.Op.{Op}
use Rattle.ficus_model.specs.Events.{actor, traits}
use Rattle.ficus_model.specs.Known.{Knows}
use Rattle.ficus_model.specs.Live.{ModelEntry, entered_by, removed_by, IsRemoved}
use Rattle.ficus_laws.specs.Known.{IsNoneAnd}
use Rattle.ficus_laws.specs.Updates.{next_number}
use Rattle.ficus_removal_laws.specs.Marks.{IsEnteredAs, IsAbsent, IsMarked}

-- the entry is alive
pub record IsAlive (H : List Event) (replica : ℕ) (id : Id) : Type 0 where
  pub entered : IsEnteredAs H (Knows H replica) id
  pub not_removed : IsRemoved H (Knows H replica) id → ⊥

-- the state is what the history gives: `None` stands for an entry that isn't held
abbrev pub StandsAs : ℕ → List Event → ℕ → Id → Option State → Type 0
StandsAs members H replica id None = IsAbsent members H replica id
StandsAs members H replica id (Some Live) = IsAlive H replica id
StandsAs members H replica id (Some (Dead one two)) = IsMarked members H replica id one two

-- the operation, as the next update of the replica after the history, enters an entry with this identifier
pub record EntersAs (H : List Event) (replica : ℕ) (op : Op) (id : Id) : Type 0 where
  pub entry : ModelEntry
  pub enters : entered_by (next_number replica H) op ≡ Some entry
  pub named : entry.id ≡ id

-- the event, as the next after the history, takes nothing, collects nothing, and neither enters nor removes the entry
abbrev pub LeavesState : List Event → Event → Id → Type 0
LeavesState H event id = MatchBool (traits event).collects ⊥
    (IsNoneAnd (traits event).takes (IfSome (traits event).update (λ op. (EntersAs H (actor event) op id → ⊥) ×
    (Contains (removed_by (next_number (actor event) H) op) id → ⊥))))

-- A collection drops an entry whose second set is full, and leaves every other.
abbrev pub Collects : ℕ → Option State → Option State → Type 0
Collects members None after = after ≡ None
Collects members (Some Live) after = after ≡ Some Live
Collects members (Some (Dead one two)) after =
    (IsFull two members → after ≡ None) × ((IsFull two members → ⊥) → after ≡ Some (Dead one two))

-- A removal begins with the replica alone in the first set and nobody in the second.
pub record IsKilled (replica one two : ℕ) : Type 0 where
  pub first : (peer : ℕ) → IsTrue (has one peer) ↔ (peer ≡ replica)
  pub second : (peer : ℕ) → IsTrue (has two peer) → ⊥
