use Rattle.std.proofs.Common.{◌≡◌, ◌≤◌, ◌+◌, ◌-◌, ◌*◌, ◌++◌}
use Rattle.ficus_generator.specs.Commands.{step_commands}
use Rattle.ficus_generator.specs.Draws.{state_after}
use Rattle.ficus_generator.proofs.commands.push_steps.Given as goal

abbrev pub invariant-loop-number : goal.invariant-loop-number
invariant-loop-number l = record {
  within : l.number ≤ l.steps + 1;
  state : l.draws ≡ state_after l.seed (3 * (l.number - 1));
  pushed : l.commands.items ≡ l.initial.commands.items ++ step_commands l.seed (l.number - 1) l.members;
}
