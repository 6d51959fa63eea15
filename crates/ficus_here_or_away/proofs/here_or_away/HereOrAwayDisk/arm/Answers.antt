use Rattle.ficus_here_or_away.proofs.Away.{keeps_away}
use Rattle.ficus_here_or_away.proofs.here_or_away.HereOrAwayDisk.arm.Goals as goal

pub returns-in-Away-clause-keeps : goal.returns-in-Away-clause-keeps
returns-in-Away-clause-keeps g c =
    keeps_away g.D.Disk _ _ _ c.in-Away.is c.arm-in-Away.ensures.keeps
