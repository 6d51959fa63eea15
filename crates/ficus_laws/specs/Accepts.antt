-- Taking an answer, and a pull whole.
use Rattle.std.specs.Prelude.{◌⊎◌, ℕ, zero, suc, ◌+◌, List, [], ◌∷◌, ◌++◌, length}
use Rattle.ficus_model.specs.declared.event.Event.{Event}
use Rattle.ficus_model.specs.declared.event.Event.TheVariants.{Ask, Serve, Take, Accept}
use Rattle.ficus_model.specs.Events.{generation_of}
use Rattle.ficus_model.specs.Live.{ModelEntry, IsEntered, IsRemoved}

-- entered in one of the two, and removed in neither
pub record IsLiveJoined (H : List Event) (U : ℕ → Type 0) (K : List Event) (V : ℕ → Type 0) (entry : ModelEntry) :
    Type 0 where
  pub entered : IsEntered H U entry ⊎ IsEntered K V entry
  pub kept : IsRemoved H U entry.id → ⊥
  pub kept_there : IsRemoved K V entry.id → ⊥

-- a replica asks another
abbrev pub asked : List Event → ℕ → ℕ → List Event
asked H replica server = H ++ Ask replica server ∷ []

-- which serves its state in so many pieces
abbrev pub serving : List Event → ℕ → ℕ → ℕ → Event
serving H replica server pieces = Serve server (length H) (generation_of server (asked H replica server)) pieces

abbrev pub answered : List Event → ℕ → ℕ → ℕ → List Event
answered H replica server pieces = asked H replica server ++ serving H replica server pieces ∷ []

-- a replica takes the first so many pieces of what was served at this position, in order
abbrev pub taking : List Event → ℕ → ℕ → ℕ → List Event
taking H replica serve zero = H
taking H replica serve (suc count) = taking H replica serve count ++ Take replica serve count ∷ []

-- a pull: a replica asks another, which serves, and takes the pieces in order, up to the last, which has this number
abbrev pub pulled : List Event → ℕ → ℕ → ℕ → List Event
pulled H replica server last =
    taking (answered H replica server (last + 1)) replica (length H + 1) last ++ Accept replica (length H + 1) last ∷ []
