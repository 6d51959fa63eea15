use Rattle.std.proofs.Common.{◌+◌, ◌≤◌, length}
use Rattle.ficus_world.specs.Acts.{ActsOn}
use Rattle.ficus_world.specs.Kills.{IsGive, IsSettled}
use Rattle.ficus_world.proofs.Pulling.{HasGiven}
use Rattle.ficus_world.proofs.world.World.give_each.Given as goal

-- The messages so far are given, and the disks are still those of the world; each has stored an event at most.
abbrev pub invariant-loop-index : goal.invariant-loop-index
invariant-loop-index g l = record {
  given : HasGiven g.L.Link.tells g.K.Keep g.D.Disk l.first l.count l.index l.fn.self.whole l.self.whole
      l.fn.disks.items l.disks.items;
  settled : IsSettled g.K.Keep g.D.Disk l.self.whole l.disks.items;
  acts : ActsOn g.L.Link.tells g.K.Keep g.D.Disk IsGive l.fn.self l.self l.fn.disks.items l.disks.items;
  grows : length l.self.whole.events ≤ length l.fn.self.whole.events + l.index;
}
