use Rattle.std.proofs.Common.{◌+◌, ◌≤◌, length, rules, subst}
use Rattle.ficus_here_or_away.specs.HereOrAway.{either}
use Rattle.ficus_here_or_away.specs.StandIn.{seen_of}
use Rattle.ficus_here_or_away.proofs.Away.{stays_away}
use Rattle.ficus_here_or_away.proofs.here_or_away.HereOrAwayDisk.read.Goals as goal

pub returns-in-Away-clause-stays : goal.returns-in-Away-clause-stays
returns-in-Away-clause-stays g c =
    stays_away g.D.Disk _ _ _ c.in-Away.is _ c.read-in-Away.ensures.stays

pub returns-in-Away-clause-by_fuse : goal.returns-in-Away-clause-by_fuse
returns-in-Away-clause-by_fuse g c = λ told.
    let fits = subst (λ d. c.args.at + length c.args.into.now ≤ length (either g.D.Disk.seen seen_of d)) c.in-Away.is
    (c.requires told.0) in
    let looks = c.read-in-Away.ensures.by_fuse fits in
    search (rules, looks)
