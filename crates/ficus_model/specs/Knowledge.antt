-- What a replica knows of what others know of a removal. Source: the two phases of Ficus (Guy, Popek and Page 1993).
use Rattle.std.specs.Prelude.{ℕ, ◌≤◌, List}
use Rattle.ficus_ids.specs.Members.{IsMember}
use Rattle.ficus_ids.specs.declared.id.Id.{Id}
use Rattle.ficus_model.specs.declared.event.Event.{Event}
use Rattle.ficus_model.specs.Events.{IsOf, through}
use Rattle.ficus_model.specs.Known.{Knows}
use Rattle.ficus_model.specs.Live.{IsRemoved}

-- the last event of a peer that the replica knows
pub record IsHeard (H : List Event) (replica peer position : ℕ) : Type 0 where
  pub known : Knows H replica position
  pub own : IsOf H position peer
  pub last : (other : ℕ) → Knows H replica other → IsOf H other peer → other ≤ position

-- the first set of marks: through the last event of the peer that the replica knows, the peer knew a removal
pub record IsInOne (H : List Event) (replica peer : ℕ) (entry : Id) : Type 0 where
  pub position : ℕ
  pub heard : IsHeard H replica peer position
  pub removed : IsRemoved (through position H) (Knows (through position H) peer) entry

-- the second set of marks: through that event, the peer had every member in its first set
pub record IsInTwo (members : ℕ) (H : List Event) (replica peer : ℕ) (entry : Id) : Type 0 where
  pub position : ℕ
  pub heard : IsHeard H replica peer position
  pub all : (member : ℕ) → IsMember members member → IsInOne (through position H) peer member entry

-- in other words: the replica knows that the peer knows that the entry is removed
pub record KnowsThatKnows (H : List Event) (replica peer : ℕ) (entry : Id) : Type 0 where
  pub position : ℕ
  pub known : Knows H replica position
  pub own : IsOf H position peer
  pub removed : IsRemoved (through position H) (Knows (through position H) peer) entry

-- and: the replica knows that the peer knows that all know
pub record KnowsThatAllKnow (members : ℕ) (H : List Event) (replica peer : ℕ) (entry : Id) : Type 0 where
  pub position : ℕ
  pub known : Knows H replica position
  pub own : IsOf H position peer
  pub all : (member : ℕ) → IsMember members member → KnowsThatKnows (through position H) peer member entry
