-- A disk that is the real one, or stands in for it.
use Rattle.ficus_here_or_away.specs.declared.here_or_away.HereOrAway.{HereOrAway}
use Rattle.ficus_here_or_away.specs.declared.here_or_away.HereOrAway.TheVariants.{Here, Away}
use Rattle.ficus_here_or_away.specs.declared.stand_in.StandIn.{StandIn}

-- of the real disk the one, of one that stands in for it the other
abbrev pub either {ℓ} : {D : Type 0} {X : Type ℓ} → (D → X) → (StandIn → X) → HereOrAway D → X
either real away (Here disk) = real disk
either real away (Away stand_in) = away stand_in

-- what holds of real disks and of those that stand in for them holds of each
pub of_either : {D : Type 0} (P : HereOrAway D → Type 0) → ((disk : D) → P (Here disk))
    → ((stand_in : StandIn) → P (Away stand_in)) → (either : HereOrAway D) → P either
of_either P real away (Here disk) = real disk
of_either P real away (Away stand_in) = away stand_in
