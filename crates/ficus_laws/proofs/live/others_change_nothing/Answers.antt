use Rattle.std.proofs.Common.{◌≢◌, ℕ, List, [], ◌∷◌, ◌++◌, ◌⊎◌, inl, inr}
use Rattle.ficus_model.specs.declared.event.Event.{Event}
use Rattle.ficus_model.specs.Events.{actor}
use Rattle.ficus_model.specs.Known.{Knows}
use Rattle.ficus_laws.specs.Laws.{ShowSame}
use Rattle.ficus_laws.specs.Updates.{IsQuiet}
use Rattle.ficus_laws.proofs.Shown.{shows_same}
use Rattle.ficus_laws.proofs.OneMore.{same_of_other, same_quiet}
use Rattle.ficus_laws.proofs.live.others_change_nothing.Goals as goal

keeps : (H : List Event) (event : Event) (replica : ℕ) → (actor event ≢ replica) ⊎ IsQuiet event →
    ShowSame H (Knows H replica) (H ++ event ∷ []) (Knows (H ++ event ∷ []) replica)
keeps H event replica (inl other) = shows_same (same_of_other H event replica other)
keeps H event replica (inr quiet) = shows_same (same_quiet H event replica quiet)

pub returns : goal.returns
returns c = keeps
