-- An identifier stands in one state.
use Rattle.std.proofs.Common.{◌≡◌, ℕ, List, Option, Some, None, refl, ap}
use Rattle.ficus_ids.specs.Members.{IsMember}
use Rattle.ficus_ids.specs.declared.id.Id.{Id}
use Rattle.ficus_entry.specs.declared.entry.State.{State}
use Rattle.ficus_entry.specs.declared.entry.State.TheVariants.{Live, Dead}
use Rattle.ficus_model.specs.declared.event.Event.{Event}
use Rattle.ficus_removal_laws.proofs.Dropping.{dropped_removed}
use Rattle.ficus_merge_laws.specs.States.{StandsAs}
use Rattle.ficus_held_laws.proofs.Standing.{one_state}

module _ (members : ℕ) (H : List Event) (replica : ℕ) (id : Id) (member : IsMember members replica) where
  -- what isn't held stands in no state
  absent_not_held : (state : State) → StandsAs members H replica id None → StandsAs members H replica id (Some state) → ⊥
  absent_not_held Live absent alive = alive.not_removed (dropped_removed (absent alive.entered) member)
  absent_not_held (Dead one two) absent marked = marked.held (absent marked.entered)

  pub stands_once : (one other : Option State) → StandsAs members H replica id one →
      StandsAs members H replica id other → one ≡ other
  stands_once None None stands also = refl
  stands_once None (Some state) stands also = absurd (absent_not_held state stands also)
  stands_once (Some state) None stands also = absurd (absent_not_held state also stands)
  stands_once (Some one) (Some other) stands also = ap Some (one_state members H replica id one other stands also)
