use Rattle.ficus_loop.specs.Legs.{leg_of}
use Rattle.ficus_loop.proofs.SweepCommands.{leg_more}
use Rattle.ficus_loop.proofs.sweep_steps.push_leg.Goals as goal

pub loop-before-preserved : goal.loop-before-preserved
loop-before-preserved c =
    leg_more (leg_of c.args.leg) c.args.first c.loop-before.before c.args.steps.now.items c.loop-before.steps.items _ _
    c.loop-before.invariant c.step_of.ensures c.in_ok-push.ensures.items
