-- What holds of every world of a run.
use Rattle.std.specs.Prelude.{◌≡◌, ℕ, Some, None}
use Rattle.ficus_model.specs.declared.event.Event.{Event}
use Rattle.ficus_model.specs.Events.{traits}
use Rattle.ficus_model.specs.Lawful.{Volume}
use Rattle.ficus_runs.specs.Exchange.{ServesAll}
use Rattle.ficus_runs.specs.ModelWorld.{ModelWorld, Down}
use Rattle.ficus_runs.specs.Numbered.{IsNumbered}

-- the event is no Serve
abbrev pub IsNoServe : Event → Type 0
IsNoServe event = (traits event).serves ≡ None

-- each Serve of the run had all pieces of what was served, and none is pending
pub record IsRunWorld (volume : Volume) (W : ModelWorld) : Type 0 where
  pub serves : ServesAll volume W
  pub pending : (r : ℕ) (event : Event) → IsNumbered W.standings r (Down (Some event)) → IsNoServe event
