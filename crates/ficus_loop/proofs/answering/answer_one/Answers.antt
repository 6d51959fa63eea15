use Rattle.std.proofs.Common.{refl}
use Rattle.std.proofs.lemmas.Result.{on_ok_weaker, err_from_is_err_and}
use Rattle.ficus_runs.proofs.Extending.{step_extends}
use Rattle.ficus_runs.proofs.Extending.{part_extends}
use Rattle.ficus_loop.proofs.Stepping.{trail_to}
use Rattle.ficus_loop.proofs.Faults.{if_front}
use Rattle.ficus_loop.proofs.Performed.{performed_front, performed_one, performed_part}
use Rattle.ficus_loop.proofs.Serves.{world_one, world_front, world_stopped}
use Rattle.ficus_loop.proofs.answering.answer_one.Goals as goal

pub returns-in_err-answer-clause-front : goal.returns-in_err-answer-clause-front
returns-in_err-answer-clause-front g c = λ told tells_for.
    let p = err_from_is_err_and c.from_residual.result c.from_residual.ensures.1 in
    rw p.1 (λ volume W stands.
    let on = c.in_err-answer.ensures.answers.stays told volume W stands in
    world_stopped W c.args.world.now.whole c.args.command.now c.carry_out.new.world.whole _ _
    c.args.disks.now.items c.carry_out.new.disks.items p.2 on
    (λ disks_told. trail_to g.P.Keep g.D.Disk g.met.D.Disk.only_now volume g.L.Link.tells told disks_told W
    c.args.world.now.whole c.carry_out.new.world.whole c.args.disks.now.items c.carry_out.new.disks.items stands
    c.carry_out.ensures.answers.passes on.stops.after on.stops.stands
    (part_extends volume c.args.command.now W
    (record { outcomes = on.outcomes; after = on.stops.after }) on.stops.does) on.stops.stored) refl)

pub returns-clause-answer : goal.returns-clause-answer
returns-clause-answer g c = λ told tells_for.
    on_ok_weaker c.put_answer.result (λ put volume W stands.
    let on = c.in_ok-answer.ensures.answers.stands told tells_for volume W stands in
    world_one W c.args.world.now.whole c.args.command.now c.in_ok-answer.answer c.carry_out.new.world.whole
    c.args.disks.now.items c.carry_out.new.disks.items on
    (λ disks_told. trail_to g.P.Keep g.D.Disk g.met.D.Disk.only_now volume g.L.Link.tells told disks_told W
    c.args.world.now.whole c.carry_out.new.world.whole c.args.disks.now.items c.carry_out.new.disks.items stands
    c.carry_out.ensures.answers.passes on.follows.after on.follows.stands (step_extends on.follows.step) on.follows.stored) _ _
    put) c.put_answer.ensures.put

pub returns-clause-front : goal.returns-clause-front
returns-clause-front g c = λ told tells_for.
    if_front c.put_answer.result (λ fault put volume W stands.
    let on = c.in_ok-answer.ensures.answers.stands told tells_for volume W stands in
    world_front W c.args.world.now.whole c.args.command.now c.in_ok-answer.answer c.carry_out.new.world.whole
    c.args.disks.now.items c.carry_out.new.disks.items on
    (λ disks_told. trail_to g.P.Keep g.D.Disk g.met.D.Disk.only_now volume g.L.Link.tells told disks_told W
    c.args.world.now.whole c.carry_out.new.world.whole c.args.disks.now.items c.carry_out.new.disks.items stands
    c.carry_out.ensures.answers.passes on.follows.after on.follows.stands (step_extends on.follows.step) on.follows.stored) _ _
    put) c.put_answer.ensures.front

pub returns-in_err-answer-clause-disks : goal.returns-in_err-answer-clause-disks
returns-in_err-answer-clause-disks g c = c.carry_out.ensures.disks

pub returns-clause-disks : goal.returns-clause-disks
returns-clause-disks g c = c.carry_out.ensures.disks

pub returns-in_err-answer-clause-moves_front : goal.returns-in_err-answer-clause-moves_front
returns-in_err-answer-clause-moves_front g c =
    let p = err_from_is_err_and c.from_residual.result c.from_residual.ensures.1 in
    rw p.1 (performed_part c.args.command.now _ _ p.2 c.in_err-answer.ensures.answers.part refl)

pub returns-clause-moves : goal.returns-clause-moves
returns-clause-moves g c =
    on_ok_weaker c.put_answer.result
    (λ put. performed_one c.args.command.now _ _ c.in_ok-answer.answer c.in_ok-answer.ensures.answers.performs put)
    c.put_answer.ensures.put

pub returns-clause-moves_front : goal.returns-clause-moves_front
returns-clause-moves_front g c =
    if_front c.put_answer.result
    (λ fault put. performed_front c.args.command.now _ _ c.in_ok-answer.answer c.in_ok-answer.ensures.answers.performs
    put) c.put_answer.ensures.front
