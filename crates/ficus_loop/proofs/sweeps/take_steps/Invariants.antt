use Rattle.std.proofs.Common.{◌≡◌, ◌*◌, List, map, take, Ok}
use Rattle.ficus_model.specs.Lawful.{Volume}
use Rattle.ficus_runs.specs.ModelWorld.{ModelWorld}
use Rattle.ficus_runs.specs.Sweep.{SweepStep, Sweeps, command_of, none_swept}
use Rattle.ficus_loop.specs.Calls.{StaysBacked}
use Rattle.ficus_loop.specs.Performing.{SweepsAll}
use Rattle.ficus_loop.specs.SweepFollows.{CountsFew, FollowsAction, swept_of}
use Rattle.ficus_world.specs.Kills.{IsSweepLink, Passes}
use Rattle.ficus_world.specs.World.{WorldStandsFor, most_unforeseen}
use Rattle.ficus_loop.proofs.sweeps.take_steps.Given as goal

-- the steps so far are done, and the disks are still those of the world; few enough events are foreseen, and none was
-- counted too often
abbrev pub invariant-loop-step : goal.invariant-loop-step
invariant-loop-step g l = record {
  done : g.L.Link.tells → (some : List SweepStep) → l.steps ≡ map command_of some → (volume : Volume)
      (W : ModelWorld) → WorldStandsFor volume W l.fn.world.whole
      → FollowsAction g.K.Keep g.D.Disk volume W l.fn.world.whole
      (Sweeps volume (take l.step-index some) none_swept) (Ok (swept_of l.report)) l.world.whole l.fn.disks.items
      l.disks.items;
  passes : Passes g.L.Link.tells g.K.Keep g.D.Disk IsSweepLink l.fn.world.whole l.world.whole l.fn.disks.items
      l.disks.items;
  moves : SweepsAll g.L.Link.tells g.K.Keep g.D.Disk l.fn.world.whole (take l.step-index l.steps) l.report l.world.whole
      l.fn.disks.items l.disks.items;
  disks : StaysBacked g.K.Keep g.D.Disk (most_unforeseen * l.step-index) l.fn.world l.world l.fn.disks.items
      l.disks.items;
  few : CountsFew l.step-index l.report;
}
