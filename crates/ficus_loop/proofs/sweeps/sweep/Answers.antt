use Rattle.std.proofs.Common.{List, Err, length, map, refl, sym, subst, ap, ◌∙◌, inl}
use Rattle.std.proofs.lemmas.Result.{err_from_is_err_and}
use Rattle.ficus_ids.specs.Members.{IsCount}
use Rattle.ficus_runs.specs.Sweep.{command_of, sweep_steps}
use Rattle.ficus_script.specs.declared.command.Command.{Command}
use Rattle.ficus_loop.specs.Performing.{SweepsTo, sweep_commands}
use Rattle.ficus_loop.specs.SweepFollows.{FollowsSweep, most_swept}
use Rattle.ficus_loop.proofs.Backing.{backed_none}
use Rattle.ficus_loop.proofs.SweepCommands.{commands_of, few_commands, of_sweep}
use Rattle.ficus_loop.proofs.SweepFollowing.{stops_first, swept_of_result}
use Rattle.ficus_world.specs.Kills.Passes.{Idles}
use Rattle.ficus_world.specs.Kills.Touches.{TouchesNone}
use Rattle.ficus_loop.proofs.sweeps.sweep.Goals as goal

pub returns-in_err-steps-clause-follows : goal.returns-in_err-steps-clause-follows
returns-in_err-steps-clause-follows g c = λ told volume W stands.
    let p = err_from_is_err_and c.from_residual.result c.from_residual.ensures.1 in
    subst (λ r. FollowsSweep g.K.Keep g.D.Disk volume W c.args.world.now.whole
    (sweep_steps c.args.order volume.members) r c.args.world.now.whole c.args.disks.now.items c.args.disks.now.items)
    (sym (p.1 ∙ ap Err p.2))
    (stops_first (sweep_steps c.args.order volume.members) W c.args.world.now.whole c.args.disks.now.items stands)

pub returns-in_err-steps-clause-passes : goal.returns-in_err-steps-clause-passes
returns-in_err-steps-clause-passes g c = Idles c.settled.ensures TouchesNone

pub take_steps-requires-clause-commands : goal.take_steps-requires-clause-commands
take_steps-requires-clause-commands g c =
    commands_of c.args.order c.count.result c.deref.result.now
    (subst IsCount (sym c.count.ensures.value) c.count.ensures.valid) (c.deref.ensures.value ∙ c.in_ok-steps.ensures)

pub take_steps-requires-clause-each : goal.take_steps-requires-clause-each
take_steps-requires-clause-each g c =
    of_sweep c.deref.result.now (sweep_steps c.args.order c.count.result)
    (c.deref.ensures.value ∙ c.in_ok-steps.ensures)

pub take_steps-requires-clause-count : goal.take_steps-requires-clause-count
take_steps-requires-clause-count g c =
    few_commands c.args.order c.count.result c.deref.result.now
    (subst IsCount (sym c.count.ensures.value) c.count.ensures.valid) (c.deref.ensures.value ∙ c.in_ok-steps.ensures)

pub returns-clause-follows : goal.returns-clause-follows
returns-clause-follows g c = λ told volume W stands.
    c.take_steps.ensures.follows told (sweep_steps c.args.order volume.members)
    (c.deref.ensures.value ∙ c.in_ok-steps.ensures ∙ ap (λ n. map command_of (sweep_steps c.args.order n))
    (c.count.ensures.value ∙ c.members.ensures ∙ stands.members)) volume W stands

pub returns-clause-swept : goal.returns-clause-swept
returns-clause-swept g c = λ told volume W stands.
    swept_of_result g.K.Keep g.D.Disk volume c.args.order W c.args.world.now.whole c.take_steps.new.world.whole
    c.args.disks.now.items c.take_steps.new.disks.items stands c.take_steps.result
    (c.take_steps.ensures.follows told (sweep_steps c.args.order volume.members)
    (c.deref.ensures.value ∙ c.in_ok-steps.ensures ∙ ap (λ n. map command_of (sweep_steps c.args.order n))
    (c.count.ensures.value ∙ c.members.ensures ∙ stands.members)) volume W stands)

pub returns-in_err-steps-clause-disks : goal.returns-in_err-steps-clause-disks
returns-in_err-steps-clause-disks g c =
    backed_none most_swept c.args.world.now c.args.disks.now.items c.requires.backed

pub returns-clause-disks : goal.returns-clause-disks
returns-clause-disks g c = c.take_steps.ensures.disks

pub settled-requires : goal.settled-requires
settled-requires g c = c.requires.backed.disks

pub returns-in_err-steps-clause-moves : goal.returns-in_err-steps-clause-moves
returns-in_err-steps-clause-moves g c =
    let p = err_from_is_err_and c.from_residual.result c.from_residual.ensures.1 in
    subst (λ r. SweepsTo g.L.Link.tells g.K.Keep g.D.Disk c.args.world.now.whole
    (sweep_commands c.args.order (length c.args.world.now.whole.members)) r c.args.world.now.whole
    c.args.disks.now.items c.args.disks.now.items) (sym (p.1 ∙ ap Err p.2)) (inl (refl, refl))

pub returns-clause-moves : goal.returns-clause-moves
returns-clause-moves g c =
    subst (λ (some : List Command). SweepsTo g.L.Link.tells g.K.Keep g.D.Disk c.args.world.now.whole some
    c.take_steps.result c.take_steps.new.world.whole c.args.disks.now.items c.take_steps.new.disks.items)
    (c.deref.ensures.value ∙ c.in_ok-steps.ensures ∙ ap (λ n. sweep_commands c.args.order n)
    (c.count.ensures.value ∙ c.members.ensures)) c.take_steps.ensures.moves
