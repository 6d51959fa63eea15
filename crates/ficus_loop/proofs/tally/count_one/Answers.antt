use Rattle.ficus_runs.proofs.Extending.{step_extends}
use Rattle.ficus_loop.proofs.Stepping.{trail_to}
use Rattle.ficus_loop.proofs.Tallying.{tallies_one}
use Rattle.ficus_loop.proofs.tally.count_one.Goals as goal

pub returns-clause-answer : goal.returns-clause-answer
returns-clause-answer g c = λ told tell volume W stands.
    let on = c.in_ok-answer.ensures.answers.stands told tell volume W stands in
    tallies_one W c.args.world.now.whole c.args.command.now c.in_ok-answer.answer c.carry_out.new.world.whole c.args.tally.now
    c.count.new.self c.args.disks.now.items c.carry_out.new.disks.items on
    (λ disks_told. trail_to g.P.Keep g.D.Disk g.met.D.Disk.only_now volume g.L.Link.tells told disks_told W
    c.args.world.now.whole c.carry_out.new.world.whole c.args.disks.now.items c.carry_out.new.disks.items stands
    c.carry_out.ensures.answers.passes on.follows.after on.follows.stands (step_extends on.follows.step) on.follows.stored)
    c.count.ensures

pub returns-in_err-answer-clause-disks : goal.returns-in_err-answer-clause-disks
returns-in_err-answer-clause-disks g c = c.carry_out.ensures.disks

pub returns-clause-disks : goal.returns-clause-disks
returns-clause-disks g c = c.carry_out.ensures.disks
