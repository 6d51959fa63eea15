-- How the marks of an entry stand before and after an event.
use Rattle.std.specs.Prelude.{◌≡◌, ◌↔◌, ◌⊎◌, ℕ, ◌≤◌, List, IfSome, IsTrue, Contains}
use Rattle.ficus_ids.specs.Marks.{has}
use Rattle.ficus_ids.specs.Members.{IsMember}
use Rattle.ficus_ids.specs.declared.id.Id.{Id}
use Rattle.ficus_model.specs.declared.event.Event.{Event}
use Rattle.ficus_model.specs.Events.{actor, traits}
use Rattle.ficus_model.specs.Known.{Knows}
use Rattle.ficus_model.specs.Live.{ModelEntry, removed_by, IsEntered, IsRemoved}
use Rattle.ficus_model.specs.Knowledge.{IsHeard, IsInOne, IsInTwo}
use Rattle.ficus_model.specs.Held.{IsDropped, IsHeldEntry}
use Rattle.ficus_laws.specs.Known.{IsNoneAnd}
use Rattle.ficus_laws.specs.Updates.{next_number}

-- every member is in the first set of the replica
abbrev pub IsOneFull : ℕ → List Event → ℕ → Id → Type 0
IsOneFull members H replica entry = (member : ℕ) → IsMember members member → IsInOne H replica member entry

-- every member is in its second set
abbrev pub IsTwoFull : ℕ → List Event → ℕ → Id → Type 0
IsTwoFull members H replica entry = (member : ℕ) → IsMember members member → IsInTwo members H replica member entry

-- the event, as the next after the history, takes nothing and doesn't remove the entry
abbrev pub LeavesEntry : List Event → Event → Id → Type 0
LeavesEntry H event entry = IsNoneAnd (traits event).takes (IfSome (traits event).update
    (λ op. Contains (removed_by (next_number (actor event) H) op) entry → ⊥))

-- after both histories the replica's sets of marks are the same
pub record SameMarks (members : ℕ) (H K : List Event) (replica : ℕ) (entry : Id) : Type 0 where
  pub one : (peer : ℕ) → IsInOne H replica peer entry ↔ IsInOne K replica peer entry
  pub two : (peer : ℕ) → IsInTwo members H replica peer entry ↔ IsInTwo members K replica peer entry

-- the entry with this identifier is entered, as far as U knows
pub record IsEnteredAs (H : List Event) (U : ℕ → Type 0) (id : Id) : Type 0 where
  pub entry : ModelEntry
  pub entered : IsEntered H U entry
  pub named : entry.id ≡ id

-- the replica holds nothing under this identifier: where it knows the entry, it has dropped it
abbrev pub IsAbsent : ℕ → List Event → ℕ → Id → Type 0
IsAbsent members H replica id = IsEnteredAs H (Knows H replica) id → IsDropped members H replica id

-- the entry is removed and held, and these sets have exactly the members that are known to know of its removal, and
-- those that are known to know that all know of it
pub record IsMarked (members : ℕ) (H : List Event) (replica : ℕ) (id : Id) (one two : ℕ) : Type 0 where
  pub entered : IsEnteredAs H (Knows H replica) id
  pub removed : IsRemoved H (Knows H replica) id
  pub held : IsDropped members H replica id → ⊥
  pub first : (peer : ℕ) → IsTrue (has one peer) ↔ IsInOne H replica peer id
  pub second : (peer : ℕ) → IsTrue (has two peer) ↔ IsInTwo members H replica peer id

-- a removal begins: the replica holds the entry, is alone in its first set, and nobody is in the second
pub record IsBegun (members : ℕ) (H : List Event) (replica : ℕ) (id : Id) : Type 0 where
  pub entry : ModelEntry
  pub held : IsHeldEntry members H replica entry
  pub named : entry.id ≡ id
  pub one : (peer : ℕ) → IsInOne H replica peer id ↔ (peer ≡ replica)
  pub two : (peer : ℕ) → IsInTwo members H replica peer id → ⊥

-- the later of the last events of the peer of which two replicas, after two histories, have heard
pub record IsLaterHeard (H : List Event) (replica : ℕ) (K : List Event) (server peer position : ℕ) : Type 0 where
  pub heard : IsHeard H replica peer position ⊎ IsHeard K server peer position
  pub mine : (other : ℕ) → IsHeard H replica peer other → other ≤ position
  pub theirs : (other : ℕ) → IsHeard K server peer other → other ≤ position
