use Rattle.std.proofs.Common.{◌≡◌, ◌-◌}
use Rattle.ficus_top.proofs.graft.Leading.{IsUnderway}
use Rattle.ficus_top.proofs.graft.volumes.Volumes.follow.Given as goal

-- the course was followed to here, and nothing has changed
abbrev pub invariant-loop-crossing : goal.invariant-loop-crossing
invariant-loop-crossing g l = record {
  same : l.self ≡ l.fn.self;
  same_disks : l.disks.items ≡ l.fn.disks.items;
  underway : IsUnderway g.L.Link.tells g.K.Keep g.D.Disk l.by l.volume l.course l.end l.fn.self l.fn.disks.items;
}

abbrev pub decreases-loop-crossing : goal.decreases-loop-crossing
decreases-loop-crossing g l = l.course.most - l.end.passed
