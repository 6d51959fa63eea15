-- Events, their positions and their numbers. A history is a list of events, the oldest first.
-- Source: Guy 1991, updates that are issued without coordination.
use Rattle.std.specs.Prelude.{◌≡◌, ℕ, ◌+◌, Bool, true, false, ◌&&◌, ◌==◌, List, take, count_by, slice_get, Option, Some, None, is_some}
use Rattle.ficus_ids.specs.declared.id.Id.{Id}
use Rattle.ficus_model.specs.declared.event.Event.{Event}
use Rattle.ficus_model.specs.declared.event.Event.TheVariants.{Update, Ask, Serve, Take, Accept, Collect, Restart}
use Rattle.ficus_model.specs.declared.event.Op.{Op}

-- whose action an event is
abbrev pub actor : Event → ℕ
actor (Update by op) = by
actor (Ask by to) = by
actor (Serve by ask state pieces) = by
actor (Take by serve piece) = by
actor (Accept by serve piece) = by
actor (Collect by) = by
actor (Restart by) = by

-- what an event does, beside whose action it is: the operation of an update, the position of the ask that is served and
-- of the Serve whose state is taken, whether it collects, whether it closes earlier asks, and whether its replica is
-- saved
pub record Traits : Type 0 where
  pub update : Option Op
  pub serves : Option ℕ
  pub takes : Option ℕ
  pub collects : Bool
  pub closes : Bool
  pub saves : Bool

abbrev pub no_traits : Traits
no_traits = record { update = None; serves = None; takes = None; collects = false; closes = false; saves = false }

abbrev pub traits : Event → Traits
traits (Update by op) = record no_traits { update = Some op; saves = true }
traits (Ask by to) = record no_traits { closes = true; saves = true }
traits (Serve by ask state pieces) = record no_traits { serves = Some ask }
traits (Take by serve piece) = no_traits
traits (Accept by serve piece) = record no_traits { takes = Some serve; closes = true; saves = true }
traits (Collect by) = record no_traits { collects = true; saves = true }
traits (Restart by) = record no_traits { closes = true }

-- at this position of the history stands this event
pub record IsAt (H : List Event) (position : ℕ) (event : Event) : Type 0 where
  pub is : slice_get H position ≡ Some event

-- at this position stands an event of this replica
pub record IsOf (H : List Event) (position replica : ℕ) : Type 0 where
  pub event : Event
  pub at : IsAt H position event
  pub of : actor event ≡ replica

-- the events before a position, and those through it
abbrev pub before : ℕ → List Event → List Event
before position H = take position H

abbrev pub through : ℕ → List Event → List Event
through position H = take (position + 1) H

abbrev pub is_update_of : ℕ → Event → Bool
is_update_of replica event = is_some (traits event).update && (actor event == replica)

-- how many updates of a replica there are
abbrev pub count_of : ℕ → List Event → ℕ
count_of replica H = count_by (is_update_of replica) H

-- at this position stands the update with this number and operation: r.k is the k-th update of r, from 1
pub record IsUpdate (H : List Event) (position : ℕ) (number : Id) (op : Op) : Type 0 where
  pub at : IsAt H position (Update number.replica op)
  pub counted : number.number ≡ count_of number.replica (before position H) + 1

-- an event of the replica after which it is saved
abbrev pub is_saved : ℕ → Event → Bool
is_saved replica event = (traits event).saves && (actor event == replica)

-- how many times the replica was saved
abbrev pub generation_of : ℕ → List Event → ℕ
generation_of replica H = count_by (is_saved replica) H

-- the event with another position in place of the one that it names
abbrev pub placed : (ℕ → ℕ) → Event → Event
placed place (Update by op) = Update by op
placed place (Ask by to) = Ask by to
placed place (Serve by ask state pieces) = Serve by (place ask) state pieces
placed place (Take by serve piece) = Take by (place serve) piece
placed place (Accept by serve piece) = Accept by (place serve) piece
placed place (Collect by) = Collect by
placed place (Restart by) = Restart by

-- the event where so many earlier events go before: the positions in it are raised
abbrev pub raised : ℕ → Event → Event
raised earlier event = placed (λ position. position + earlier) event
