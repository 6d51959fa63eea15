use Rattle.std.proofs.Common.{◌≡◌, ◌*◌, List, get_or, take, Ok, Err, refl, sym, subst, ap, ◌∙◌, arith}
use Rattle.std.proofs.lemmas.List.{take_all}
use Rattle.std.proofs.lemmas.Result.{err_from_is_err_and}
use Rattle.ficus_script.specs.declared.command.Command.{Command}
use Rattle.ficus_runs.specs.Sweep.{SweepStep, Collecting, Sweeps, none_swept}
use Rattle.ficus_loop.specs.SweepFollows.{FollowsAction, FollowsSweep, IsSweepCommand, most_swept, swept_of}
use Rattle.ficus_loop.specs.Performing.{SweepsAll, SweepsTo}
use Rattle.ficus_loop.proofs.Performing.{swept_last, swept_more, swept_nothing}
use Rattle.ficus_loop.proofs.Backing.{backed_none, backed_then, backed_within}
use Rattle.ficus_loop.proofs.SweepFollowing.{all_taken, last_step, next_step, no_steps, step_is, within_steps}
use Rattle.ficus_world.specs.Kills.Passes.{Idles, Joins}
use Rattle.ficus_world.specs.Kills.Touches.{TouchesNone}
use Rattle.ficus_world.specs.World.{most_unforeseen}
use Rattle.ficus_loop.proofs.sweeps.take_steps.Goals as goal

pub loop-step-init : goal.loop-step-init
loop-step-init g c = record {
  done = λ told some same volume W stands. no_steps W _ _ stands;
  moves = swept_nothing _ _ _ refl;
  passes = Idles c.settled.ensures TouchesNone;
  disks = backed_none (most_unforeseen * 0) c.args.world.now c.args.disks.now.items c.requires.backed;
  few = record { pulls = omega arith; entries = omega arith; files = omega arith };
}

pub take_step-requires-clause-step : goal.take_step-requires-clause-step
take_step-requires-clause-step g c =
    subst IsSweepCommand (sym c.step-item.is)
    (c.requires.each c.loop-step.step-index c.step-item.result c.loop-step-test.true)

pub loop-step-preserved : goal.loop-step-preserved
loop-step-preserved g c = record {
  done = λ told some same volume W stands.
      let first = c.loop-step.invariant.done told some same volume W stands in
      let is = step_is c.args.steps.now some c.loop-step.step-index c.step-item.result same c.loop-step-test.true
      c.step-item.is in
      let within = within_steps c.args.steps.now some c.loop-step.step-index same c.loop-step-test.true in
      next_step some c.loop-step.step-index (get_or some c.loop-step.step-index (Collecting 0)) within refl
      c.loop-step.report first (Ok c.in_ok-report.report)
      (c.in_ok-report.ensures.follows told (get_or some c.loop-step.step-index (Collecting 0)) is volume
      first.follows.after first.follows.stands) c.in_ok-report.report refl;
  moves = swept_more c.args.steps.now c.loop-step.step-index c.step-item.result c.loop-step-test.true c.step-item.is
      c.loop-step.report c.loop-step.invariant.moves c.in_ok-report.report c.in_ok-report.ensures.moves;
  passes = Joins c.loop-step.invariant.passes c.take_step.ensures.passes;
  disks = backed_then _ (omega arith) c.loop-step.invariant.disks c.take_step.ensures.disks;
  few = c.in_ok-report.ensures.few c.loop-step.step-index c.loop-step.invariant.few;
}

pub returns-in_err-report-clause-follows : goal.returns-in_err-report-clause-follows
returns-in_err-report-clause-follows g c = λ told some same volume W stands.
    let p = err_from_is_err_and c.from_residual.result c.from_residual.ensures.1 in
    let first = c.loop-step.invariant.done told some same volume W stands in
    let is = step_is c.args.steps.now some c.loop-step.step-index c.step-item.result same c.loop-step-test.true
    c.step-item.is in
    let within = within_steps c.args.steps.now some c.loop-step.step-index same c.loop-step-test.true in
    subst (λ r. FollowsSweep g.K.Keep g.D.Disk volume W c.args.world.now.whole some r c.take_step.new.world.whole
    c.args.disks.now.items c.take_step.new.disks.items) (sym (p.1 ∙ ap Err p.2))
    (last_step W c.args.world.now.whole c.loop-step.world.whole c.take_step.new.world.whole c.args.disks.now.items
    c.loop-step.disks.items c.take_step.new.disks.items some c.loop-step.step-index
    (get_or some c.loop-step.step-index (Collecting 0)) within refl c.loop-step.report first _
    (c.in_err-report.ensures.follows told (get_or some c.loop-step.step-index (Collecting 0)) is volume
    first.follows.after first.follows.stands))

pub returns-clause-follows : goal.returns-clause-follows
returns-clause-follows g c = λ told some same volume W stands.
    subst (λ (l : List SweepStep). FollowsAction g.K.Keep g.D.Disk volume W c.args.world.now.whole
    (Sweeps volume l none_swept) (Ok (swept_of c.loop-step.report)) c.loop-step.world.whole c.args.disks.now.items
    c.loop-step.disks.items) (all_taken c.args.steps.now some c.loop-step.step-index same c.loop-step-test.false)
    (c.loop-step.invariant.done told some same volume W stands)

pub returns-in_err-report-clause-moves : goal.returns-in_err-report-clause-moves
returns-in_err-report-clause-moves g c =
    let p = err_from_is_err_and c.from_residual.result c.from_residual.ensures.1 in
    subst (λ r. SweepsTo g.L.Link.tells g.K.Keep g.D.Disk c.args.world.now.whole c.args.steps.now r
    c.take_step.new.world.whole c.args.disks.now.items c.take_step.new.disks.items) (sym (p.1 ∙ ap Err p.2))
    (swept_last c.args.steps.now c.loop-step.step-index c.step-item.result c.loop-step-test.true c.step-item.is
    c.loop-step.report c.loop-step.invariant.moves _ _ _ c.in_err-report.ensures.moves)

pub returns-clause-moves : goal.returns-clause-moves
returns-clause-moves g c =
    let steps = c.args.steps.now in
    let all : take c.loop-step.step-index steps ≡ steps = take_all c.loop-step.step-index steps c.loop-step-test.false in
    subst (λ (some : List Command). SweepsAll g.L.Link.tells g.K.Keep g.D.Disk c.args.world.now.whole some
    c.loop-step.report c.loop-step.world.whole c.args.disks.now.items c.loop-step.disks.items) all
    c.loop-step.invariant.moves

pub returns-in_err-report-clause-passes : goal.returns-in_err-report-clause-passes
returns-in_err-report-clause-passes g c = Joins c.loop-step.invariant.passes c.take_step.ensures.passes

pub returns-in_err-report-clause-disks : goal.returns-in_err-report-clause-disks
returns-in_err-report-clause-disks g c =
    backed_then most_swept (omega arith) c.loop-step.invariant.disks c.take_step.ensures.disks

pub returns-clause-disks : goal.returns-clause-disks
returns-clause-disks g c =
    backed_within most_swept (omega arith) c.loop-step.invariant.disks

pub settled-requires : goal.settled-requires
settled-requires g c = c.requires.backed.disks
