-- What contracts see of a stored history.
use Rattle.std.specs.Prelude.{ℕ, List}
use Rattle.ficus_model.specs.declared.event.Event.{Event}

-- the events so far, and for how many more there is room
pub record Stored : Type 0 where
  pub events : List Event
  pub room : ℕ
