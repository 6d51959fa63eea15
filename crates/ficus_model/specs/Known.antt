-- Who has heard of what.
use Rattle.std.specs.Prelude.{ℕ, ◌<◌, List}
use Rattle.ficus_model.specs.declared.event.Event.{Event}
use Rattle.ficus_model.specs.declared.event.Event.TheVariants.{Accept}
use Rattle.ficus_model.specs.Events.{IsAt, IsOf, before}

-- The event at a position has seen itself, what an earlier event of its replica has seen, and, where it takes the state
-- that was served at an earlier position, what the event there has seen. It has seen nothing else.
pub data HasSeen (H : List Event) : ℕ → ℕ → Type 0 where
  Itself : {at replica : ℕ} → IsOf H at replica → HasSeen H at at
  Earlier : {at old seen replica : ℕ} →
      IsOf H at replica → IsOf H old replica → old < at → HasSeen H old seen → HasSeen H at seen
  Heard : {at served piece seen replica : ℕ} →
      IsAt H at (Accept replica served piece) → served < at → HasSeen H served seen → HasSeen H at seen

-- a replica knows a position of the history where an event of its own has seen it
pub record Knows (H : List Event) (replica position : ℕ) : Type 0 where
  pub last : ℕ
  pub own : IsOf H last replica
  pub seen : HasSeen H last position

-- the past of the event at a position: its replica knew the earlier position before the event
pub record HasInPast (H : List Event) (position earlier : ℕ) : Type 0 where
  pub replica : ℕ
  pub own : IsOf H position replica
  pub known : Knows (before position H) replica earlier
