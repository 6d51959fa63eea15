-- The pairs of all members, of which one is here.
use Rattle.ficus_disk.specs.declared.pair.Pair.{Pair}
use Rattle.ficus_here_or_away.specs.HereOrAway.{either}
use Rattle.ficus_here_or_away.specs.StandIn.{IsFresh}
use Rattle.ficus_here_or_away.specs.declared.here_or_away.HereOrAway.{HereOrAway}
use Rattle.ficus_here_or_away.specs.declared.here_or_away.HereOrAway.TheVariants.{Here}

-- real disks
abbrev pub here : {D : Type 0} → Pair D → Pair (HereOrAway D)
here pair = record { a = Here pair.a; b = Here pair.b }

-- the disk stands in for one, and nothing has happened to it
abbrev pub IsAway : {D : Type 0} → HereOrAway D → Type 0
IsAway = either (λ disk. ⊥) IsFresh

pub record IsAwayPair {D : Type 0} (pair : Pair (HereOrAway D)) : Type 0 where
  pub a : IsAway pair.a
  pub b : IsAway pair.b
