use Rattle.std.proofs.Common.{◌≡◌, ◌-◌, arith}
use Rattle.ficus_generator.proofs.Growing.{state_of_next, step_commands_more}
use Rattle.ficus_generator.proofs.commands.push_steps.Goals as goal

pub loop-number-preserved : goal.loop-number-preserved
loop-number-preserved c = record {
  within = omega arith;
  state = state_of_next c.args.seed c.loop-number.number _ _ c.loop-number.auto.number c.loop-number.invariant.state c.push_step.ensures.state;
  pushed = step_commands_more c.args.seed c.args.members c.loop-number.number _ _ _ _ _ c.loop-number.auto.number (omega arith)
      c.loop-number.invariant.state c.loop-number.invariant.pushed c.in_ok-push_step.ensures.command;
}

pub returns : goal.returns
returns c =
    let none : c.loop-number.number - 1 ≡ c.args.steps = omega (arith, c.loop-number-test.false, c.loop-number.invariant.within) in
    rw none at c.loop-number.invariant.pushed

pub returns-in_ok-push_step : goal.returns-in_ok-push_step
returns-in_ok-push_step c =
    step_commands_more c.args.seed c.args.members c.loop-number.number _ _ _ _ _ c.loop-number.auto.number (omega arith)
    c.loop-number.invariant.state c.loop-number.invariant.pushed c.in_ok-push_step.ensures.command
