use Rattle.std.proofs.Common.{◌≡◌, ◌≤◌, ◌+◌, ◌-◌, ◌*◌, ◌++◌}
use Rattle.ficus_generator.specs.Draws.{state_after}
use Rattle.ficus_generator.specs.Script.{step_lines, text_of}
use Rattle.ficus_generator.proofs.script.append_steps.Given as goal

abbrev pub invariant-loop-number : goal.invariant-loop-number
invariant-loop-number l = record {
  within : l.number ≤ l.steps + 1;
  state : l.draws ≡ state_after l.seed (3 * (l.number - 1));
  text : l.script.items ≡ l.initial.script.items ++ text_of (step_lines l.seed (l.number - 1) l.members);
}
