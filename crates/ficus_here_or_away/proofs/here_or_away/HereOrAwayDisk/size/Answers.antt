use Rattle.ficus_here_or_away.proofs.Away.{stays_away}
use Rattle.ficus_here_or_away.proofs.here_or_away.HereOrAwayDisk.size.Goals as goal

pub returns-in-Away-clause-stays : goal.returns-in-Away-clause-stays
returns-in-Away-clause-stays g c =
    stays_away g.D.Disk _ _ _ c.in-Away.is _ c.size-in-Away.ensures.stays
