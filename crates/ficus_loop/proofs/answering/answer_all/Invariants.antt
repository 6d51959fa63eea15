use Rattle.std.proofs.Common.{◌≡◌, ◌*◌, take}
use Rattle.std.specs.Prelude.{All}
use Rattle.ficus_model.specs.Lawful.{Volume}
use Rattle.ficus_runs.specs.ModelWorld.{ModelWorld}
use Rattle.ficus_loop.specs.Calls.{StaysBacked}
use Rattle.ficus_loop.specs.Performed.{PutsPerformed}
use Rattle.ficus_loop.specs.Serving.{ServesWorld}
use Rattle.ficus_loop.specs.SweepFollows.{most_swept}
use Rattle.ficus_world.specs.Follows.{TellsFor}
use Rattle.ficus_world.specs.World.{WorldStandsFor}
use Rattle.ficus_loop.proofs.answering.answer_all.Given as goal

-- the commands so far were served, and the disks are still those of the world; few enough events are foreseen; no fault of
-- the sink was counted
abbrev pub invariant-loop-command : goal.invariant-loop-command
invariant-loop-command g l = record {
  served : g.L.Link.tells → All (TellsFor g.D.Disk.tells) l.commands → (volume : Volume) (W : ModelWorld)
      → WorldStandsFor volume W l.fn.world.whole
      → ServesWorld g.K.Sink.tells g.P.Keep g.D.Disk volume W l.fn.world.whole
      (take l.command-index l.commands) l.world.whole (g.K.Sink.written l.fn.output) (g.K.Sink.written l.output)
      l.fn.disks.items l.disks.items;
  moves : PutsPerformed g.K.Sink.tells g.L.Link.tells g.P.Keep g.D.Disk l.fn.world.whole
      (take l.command-index l.commands) l.world.whole (g.K.Sink.written l.fn.output) (g.K.Sink.written l.output)
      l.fn.disks.items l.disks.items;
  disks : StaysBacked g.P.Keep g.D.Disk (most_swept * l.command-index) l.fn.world l.world l.fn.disks.items l.disks.items;
  steady : g.K.Sink.faults l.output ≡ g.K.Sink.faults l.fn.output;
}
