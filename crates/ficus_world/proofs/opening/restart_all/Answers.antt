use Rattle.std.proofs.Common.{◌+◌, ◌∷◌, [], ◌++◌, ap, sym, ◌∙◌, length, arith}
use Rattle.ficus_model.specs.declared.event.Event.TheVariants.{Restart}
use Rattle.ficus_runs.proofs.Starts.{restarts_more, length_restarts}
use Rattle.ficus_world.proofs.opening.restart_all.Goals as goal

pub push-requires-clause-within : goal.push-requires-clause-within
push-requires-clause-within c =
    let before = c.loop-before.before in
    let counted = ap length c.loop-before.invariant.events ∙ length_restarts before in
    omega (arith, c.loop-before.invariant.few)

pub loop-before-preserved : goal.loop-before-preserved
loop-before-preserved c =
    let before = c.loop-before.before in
    record {
      events = c.push.ensures.events
          ∙ ap (λ events. events ++ Restart (before + 1) ∷ []) c.loop-before.invariant.events
          ∙ sym (restarts_more before);
      room = omega (arith, c.loop-before.invariant.room, c.push.ensures.room);
      few = c.loop-before.invariant.few;
    }
