use Rattle.std.proofs.Common.{◌≡◌, ◌+◌, ◌*◌, take}
use Rattle.std.specs.Prelude.{All}
use Rattle.ficus_model.specs.Lawful.{Volume}
use Rattle.ficus_runs.specs.ModelWorld.{ModelWorld}
use Rattle.ficus_loop.specs.Calls.{StaysBacked}
use Rattle.ficus_loop.specs.Tally.{Tallies}
use Rattle.ficus_loop.specs.SweepFollows.{most_swept}
use Rattle.ficus_world.specs.Follows.{TellsFor}
use Rattle.ficus_world.specs.World.{WorldStandsFor}
use Rattle.ficus_loop.proofs.tally.count_all.Given as goal

-- the commands so far were counted, and the disks are still those of the world; few enough events are foreseen
abbrev pub invariant-loop-command : goal.invariant-loop-command
invariant-loop-command g l = record {
  counted : g.L.Link.tells → All (TellsFor g.D.Disk.tells) l.commands → (volume : Volume) (W : ModelWorld)
      → WorldStandsFor volume W l.fn.world.whole
      → Tallies g.P.Keep g.D.Disk volume W l.fn.world.whole (take l.command-index l.commands) l.world.whole
      (record { ok = 0; no = 0 }) l.tally l.fn.disks.items l.disks.items;
  few : l.tally.ok + l.tally.no ≡ l.command-index;
  disks : StaysBacked g.P.Keep g.D.Disk (most_swept * l.command-index) l.fn.world l.world l.fn.disks.items l.disks.items;
}
