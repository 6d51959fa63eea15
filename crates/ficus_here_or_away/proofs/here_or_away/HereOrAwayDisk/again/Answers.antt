use Rattle.ficus_here_or_away.proofs.Away.{reopens_away}
use Rattle.ficus_here_or_away.proofs.here_or_away.HereOrAwayDisk.again.Goals as goal

pub returns-in-Away-clause-reopens : goal.returns-in-Away-clause-reopens
returns-in-Away-clause-reopens g c =
    reopens_away g.D.Disk _ _ _ c.in-Away.is _ c.again-in-Away.ensures.reopens
