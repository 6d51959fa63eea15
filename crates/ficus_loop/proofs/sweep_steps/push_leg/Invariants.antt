use Rattle.std.proofs.Common.{◌≡◌, ◌++◌, map}
use Rattle.ficus_runs.specs.Sweep.{command_of, leg_steps}
use Rattle.ficus_loop.specs.Legs.{leg_of}
use Rattle.ficus_loop.proofs.sweep_steps.push_leg.Given as goal

abbrev pub invariant-loop-before : goal.invariant-loop-before
invariant-loop-before l =
    l.steps.items ≡ l.fn.steps.items ++ map command_of (leg_steps (leg_of l.leg) l.first l.before)
