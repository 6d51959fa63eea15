-- Stored events as the last part of a history, with the next one behind both.
use Rattle.std.proofs.Common.{◌≡◌, ◌+◌, List, [], ◌∷◌, ◌++◌, length, sym, ap, ap₂, ◌∙◌, append_assoc, length-append}
use Rattle.std.specs.Prelude.{map}
use Rattle.std.proofs.lemmas.List.{map-append, length-map}
use Rattle.ficus_model.specs.declared.event.Event.{Event}
use Rattle.ficus_model.specs.Events.{raised}
use Rattle.ficus_world.specs.World.{IsLastPart}

module _ (events H : List Event) (part : IsLastPart events H) where
  -- what stored positions are in the history
  abbrev raise : Event → Event
  raise = raised (length part.earlier)

  pub length_part : length H ≡ length part.earlier + length events
  length_part =
      ap length part.is ∙ length-append part.earlier (map raise events)
      ∙ ap (λ n. length part.earlier + n) (length-map events raise)

  -- the event behind both, with its position raised in the history
  pub part_more : (stored event : Event) → raised (length part.earlier) stored ≡ event
      → H ++ event ∷ [] ≡ part.earlier ++ map (raised (length part.earlier)) (events ++ stored ∷ [])
  part_more stored event raises =
      ap₂ (λ (front back : List Event). front ++ back) part.is (ap (λ e. e ∷ []) (sym raises))
      ∙ append_assoc part.earlier (map raise events) (raise stored ∷ [])
      ∙ ap (λ later. part.earlier ++ later) (sym (map-append raise events (stored ∷ [])))
