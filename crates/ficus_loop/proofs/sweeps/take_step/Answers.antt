use Rattle.std.proofs.Common.{Err, sym, subst, ap, ◌∙◌}
use Rattle.std.proofs.lemmas.Result.{err_from_is_err_and}
use Rattle.ficus_world.specs.Follows.{FollowsOn, StopsOn}
use Rattle.ficus_runs.specs.Sweep.{command_of}
use Rattle.ficus_loop.specs.Performing.{SweepStepsTo}
use Rattle.ficus_loop.specs.SweepFollows.{FollowsStep, swept_of}
use Rattle.ficus_loop.proofs.SweepFollowing.{step_stops, step_follows, tells_for}
use Rattle.ficus_loop.proofs.Backing.{step_backed}
use Rattle.ficus_loop.proofs.FewSteps.{steps_give_few}
use Rattle.ficus_loop.proofs.Performing.{step_counts}
use Rattle.ficus_loop.proofs.SweepCommands.{is_step, sweep_link}
use Rattle.ficus_world.proofs.Passing.{passes_of}
use Rattle.ficus_loop.proofs.sweeps.take_step.Goals as goal

pub returns-in_err-answer-clause-follows : goal.returns-in_err-answer-clause-follows
returns-in_err-answer-clause-follows g c = λ told sweep_step same volume W stands.
    let p = err_from_is_err_and c.from_residual.result c.from_residual.ensures.1 in
    let stops : StopsOn g.K.Keep g.D.Disk volume W c.args.world.now.whole (command_of sweep_step)
    c.step.new.self.whole c.args.disks.now.items c.step.new.disks.items = subst (λ command. StopsOn g.K.Keep g.D.Disk
    volume W c.args.world.now.whole command c.step.new.self.whole c.args.disks.now.items c.step.new.disks.items) same
    (c.in_err-answer.ensures.stays told volume W stands) in
    subst (λ r. FollowsStep g.K.Keep g.D.Disk volume W c.args.world.now.whole sweep_step (swept_of c.args.report) r
    c.step.new.self.whole c.args.disks.now.items c.step.new.disks.items) (sym (p.1 ∙ ap Err p.2))
    (step_stops sweep_step stops)

pub returns-clause-follows : goal.returns-clause-follows
returns-clause-follows g c = λ told sweep_step same volume W stands.
    let on : FollowsOn g.K.Keep g.D.Disk volume W c.args.world.now.whole (command_of sweep_step)
    c.in_ok-answer.answer c.step.new.self.whole c.args.disks.now.items c.step.new.disks.items =
    subst (λ command. FollowsOn g.K.Keep g.D.Disk volume W c.args.world.now.whole command c.in_ok-answer.answer
    c.step.new.self.whole c.args.disks.now.items c.step.new.disks.items) same
    (c.in_ok-answer.ensures.stands told (tells_for g.D.Disk.tells sweep_step c.args.step.now same) volume W stands) in
    step_follows sweep_step c.args.report c.in_ok-answer.answer c.report_of.result on c.report_of.ensures.reports

pub returns-in_err-answer-clause-passes : goal.returns-in_err-answer-clause-passes
returns-in_err-answer-clause-passes g c =
    passes_of (λ link of. sweep_link c.args.step.now link c.requires.step of) c.step.ensures.passes

pub returns-clause-passes : goal.returns-clause-passes
returns-clause-passes g c =
    passes_of (λ link of. sweep_link c.args.step.now link c.requires.step of) c.step.ensures.passes

pub returns-in_err-answer-clause-disks : goal.returns-in_err-answer-clause-disks
returns-in_err-answer-clause-disks g c = step_backed c.step.ensures

pub returns-clause-disks : goal.returns-clause-disks
returns-clause-disks g c = step_backed c.step.ensures

pub step-requires-clause-step : goal.step-requires-clause-step
step-requires-clause-step g c = is_step c.args.step.now c.requires.step

pub report_of-requires-clause-gives : goal.report_of-requires-clause-gives
report_of-requires-clause-gives g c =
    steps_give_few g.L.Link.tells g.K.Keep g.D.Disk c.args.step.now c.in_ok-answer.answer c.requires.step
    c.settled.ensures.sound c.in_ok-answer.ensures.moves

pub settled-requires : goal.settled-requires
settled-requires g c = c.requires.backed.disks

pub returns-in_err-answer-clause-moves : goal.returns-in_err-answer-clause-moves
returns-in_err-answer-clause-moves g c =
    let p = err_from_is_err_and c.from_residual.result c.from_residual.ensures.1 in
    subst (λ r. SweepStepsTo g.L.Link.tells g.K.Keep g.D.Disk c.args.world.now.whole c.args.step.now
    (swept_of c.args.report) r c.step.new.self.whole c.args.disks.now.items c.step.new.disks.items)
    (sym (p.1 ∙ ap Err p.2)) c.in_err-answer.ensures.memory

pub returns-clause-moves : goal.returns-clause-moves
returns-clause-moves g c =
    step_counts c.args.step.now c.args.report c.in_ok-answer.answer c.report_of.result c.in_ok-answer.ensures.moves
    c.report_of.ensures.reports
