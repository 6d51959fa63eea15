-- Nothing that a replica knows to be removed returns, and nothing that is given up.
use Rattle.std.proofs.Common.{List, take, drop, sym, subst}
use Rattle.std.proofs.lemmas.List.{take-append-drop}
use Rattle.ficus_model.specs.declared.event.Event.{Event}
use Rattle.ficus_model.specs.Known.{Knows}
use Rattle.ficus_model.specs.Lawful.{IsLawful, Volume}
use Rattle.ficus_model.specs.Live.{IsLive}
use Rattle.ficus_final_laws.proofs.Finishing.{final}
use Rattle.ficus_laws.proofs.Lawful.{lawful_before}
use Rattle.ficus_laws.proofs.OneMore.{within_more}
use Rattle.ficus_laws.proofs.Shown.{removed_within}
use Rattle.ficus_top.specs.Headline.{IsFinalThroughout, IsSound, NothingReturns}

nothing_returns : (H : List Event) → NothingReturns H
nothing_returns H = λ first replica entry removed live.
    let there = subst (λ (events : List Event). IsLive events (Knows events replica) entry)
    (sym (take-append-drop first H)) live in
    there.not_removed (removed_within (within_more (take first H) (drop first H) replica) removed)

final_throughout : (volume : Volume) (H : List Event) → IsLawful volume H → IsFinalThroughout volume.members H
final_throughout volume H lawful = λ first. final volume (take first H) (lawful_before volume H first lawful)

-- a lawful history is sound
pub sound_of : (volume : Volume) (H : List Event) → IsLawful volume H → IsSound volume H
sound_of volume H lawful =
    record { lawful = lawful; no_return = nothing_returns H; final = final_throughout volume H lawful }
