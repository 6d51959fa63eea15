-- Known, as it follows from one event to the next.
use Rattle.std.specs.Prelude.{◌≡◌, ◌⊎◌, ℕ, List, length, Option, IsSomeAnd, MatchOption}
use Rattle.ficus_model.specs.declared.event.Event.{Event}
use Rattle.ficus_model.specs.Events.{IsOf, actor, through, traits}
use Rattle.ficus_model.specs.Known.{Knows}

-- there is no value, and P
abbrev pub IsNoneAnd : {A : Type 0} → Option A → Type 0 → Type 0
IsNoneAnd found P = MatchOption found P (λ _. ⊥)

-- the event takes what was served at this position
abbrev pub Takes : Event → ℕ → Type 0
Takes event position = IsSomeAnd (traits event).takes (λ served. served ≡ position)

-- the event takes what was served at an earlier position, and the replica of the event there knew this position then
pub record IsTold (H : List Event) (event : Event) (position : ℕ) : Type 0 where
  pub served : ℕ
  pub server : ℕ
  pub takes : Takes event served
  pub earlier : IsOf H served server
  pub known : Knows (through served H) server position

-- what a replica knows once the event has come after the history: what it knew, and, where the event is its
-- own, the event's position and what it is told
abbrev pub IsKnownAfter : List Event → Event → ℕ → ℕ → Type 0
IsKnownAfter H event replica position =
    Knows H replica position ⊎ ((actor event ≡ replica) × ((position ≡ length H) ⊎ IsTold H event position))
