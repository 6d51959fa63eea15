use Rattle.std.proofs.Common.{◌≤◌, length, rules, subst}
use Rattle.ficus_here_or_away.specs.HereOrAway.{either}
use Rattle.ficus_here_or_away.specs.StandIn.{seen_of}
use Rattle.ficus_here_or_away.proofs.Away.{writes_away}
use Rattle.ficus_here_or_away.proofs.here_or_away.HereOrAwayDisk.write.Goals as goal

pub returns-in-Away-clause-writes : goal.returns-in-Away-clause-writes
returns-in-Away-clause-writes g c =
    writes_away g.D.Disk _ _ _ c.in-Away.is _ _ _ c.requires.place c.write-in-Away.ensures.writes

pub returns-in-Away-clause-by_fuse : goal.returns-in-Away-clause-by_fuse
returns-in-Away-clause-by_fuse g c = λ told.
    let fits = subst (λ d. c.args.at ≤ length (either g.D.Disk.seen seen_of d)) c.in-Away.is (c.requires.place told.0) in
    let burns = c.write-in-Away.ensures.by_fuse fits in
    search (rules, burns)
