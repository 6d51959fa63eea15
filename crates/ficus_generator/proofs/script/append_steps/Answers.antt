use Rattle.std.proofs.Common.{◌≡◌, ◌-◌, arith}
use Rattle.ficus_generator.proofs.Growing.{state_of_next, steps_more}
use Rattle.ficus_generator.proofs.script.append_steps.Goals as goal

pub loop-number-preserved : goal.loop-number-preserved
loop-number-preserved c = record {
  within = omega arith;
  state = state_of_next c.args.seed c.loop-number.number _ _ c.loop-number.auto.number c.loop-number.invariant.state c.append_step.ensures.state;
  text = steps_more c.args.seed c.args.members c.loop-number.number _ _ _ _ _ c.loop-number.auto.number (omega arith)
      c.loop-number.invariant.state c.loop-number.invariant.text c.in_ok-append_step.ensures.line;
}

pub returns : goal.returns
returns c =
    let none : c.loop-number.number - 1 ≡ c.args.steps = omega (arith, c.loop-number-test.false, c.loop-number.invariant.within) in
    rw none at c.loop-number.invariant.text

pub returns-in_ok-append_step : goal.returns-in_ok-append_step
returns-in_ok-append_step c =
    steps_more c.args.seed c.args.members c.loop-number.number _ _ _ _ _ c.loop-number.auto.number (omega arith)
    c.loop-number.invariant.state c.loop-number.invariant.text c.in_ok-append_step.ensures.line
