-- What collections drop, and what a replica holds.
use Rattle.std.specs.Prelude.{◌≡◌, ◌⊎◌, ℕ, List}
use Rattle.ficus_ids.specs.Members.{IsMember}
use Rattle.ficus_ids.specs.declared.id.Id.{Id}
use Rattle.ficus_ids.specs.declared.kind.Kind.{Kind}
use Rattle.ficus_model.specs.declared.event.Event.{Event}
use Rattle.ficus_model.specs.declared.event.Event.TheVariants.{Collect}
use Rattle.ficus_model.specs.Events.{IsAt, before, through}
use Rattle.ficus_model.specs.Known.{Knows}
use Rattle.ficus_model.specs.Knowledge.{IsInTwo}
use Rattle.ficus_model.specs.Live.{ModelEntry, IsEntered, IsMade}
use Rattle.ficus_model.specs.View.{IsOrphan}

-- the replica has collected when its second set of the entry was full
pub record IsDropped (members : ℕ) (H : List Event) (replica : ℕ) (entry : Id) : Type 0 where
  pub position : ℕ
  pub collect : IsAt H position (Collect replica)
  pub full : (member : ℕ) → IsMember members member → IsInTwo members (before position H) replica member entry

-- the entry leads to the object or lies in it
abbrev pub Touches : ModelEntry → Id → Type 0
Touches entry object = (entry.target ≡ object) ⊎ (entry.dir ≡ object)

-- At this position the replica collects, and the object is done: each entry that it then knew and that touches the
-- object is dropped, and the object was no orphan.
pub record IsDone (members : ℕ) (H : List Event) (replica : ℕ) (object : Id) (position : ℕ) : Type 0 where
  pub collect : IsAt H position (Collect replica)
  pub kind : Kind
  pub made : IsMade H (Knows (before position H) replica) object kind
  pub dropped : (entry : ModelEntry) → IsEntered H (Knows (before position H) replica) entry → Touches entry object →
      IsDropped members (through position H) replica entry.id
  pub no_orphan : IsOrphan H (Knows (before position H) replica) object → ⊥

-- a known entry that isn't dropped
pub record IsHeldEntry (members : ℕ) (H : List Event) (replica : ℕ) (entry : ModelEntry) : Type 0 where
  pub entered : IsEntered H (Knows H replica) entry
  pub held : IsDropped members H replica entry.id → ⊥

-- a known object, of this kind, that isn't done
pub record IsHeldObject (members : ℕ) (H : List Event) (replica : ℕ) (object : Id) (kind : Kind) : Type 0 where
  pub made : IsMade H (Knows H replica) object kind
  pub held : (position : ℕ) → IsDone members H replica object position → ⊥
