use Rattle.ficus_loop.proofs.Performing.{sweep_part, sweep_performs}
use Rattle.ficus_loop.proofs.Sweeping.{answer_follows, answer_stops}
use Rattle.ficus_loop.proofs.command.answer_sweep.Goals as goal

pub returns-clause-answers : goal.returns-clause-answers
returns-clause-answers g c = record {
  stands = λ told tells_for volume W stands.
      answer_follows g.P.Keep g.D.Disk volume c.args.order W c.args.world.now.whole c.sweep-swept.new.world.whole
      c.args.disks.now.items c.sweep-swept.new.disks.items c.sweep-swept.result c.answered.result c.answered.ensures
      (c.sweep-swept.ensures.follows told volume W stands);
  stays = λ told volume W stands.
      answer_stops g.P.Keep g.D.Disk volume c.args.order W c.args.world.now.whole c.sweep-swept.new.world.whole
      c.args.disks.now.items c.sweep-swept.new.disks.items c.sweep-swept.result c.answered.result c.answered.ensures
      (c.sweep-swept.ensures.follows told volume W stands);
  performs = sweep_performs g.L.Link.tells g.P.Keep g.D.Disk c.args.world.now.whole c.sweep-swept.new.world.whole
      c.args.disks.now.items c.sweep-swept.new.disks.items c.args.order c.sweep-swept.result c.answered.result
      c.answered.ensures c.sweep-swept.ensures.moves;
  part = sweep_part g.L.Link.tells g.P.Keep g.D.Disk c.args.world.now.whole c.sweep-swept.new.world.whole
      c.args.disks.now.items c.sweep-swept.new.disks.items c.args.order c.sweep-swept.result c.answered.result
      c.answered.ensures c.sweep-swept.ensures.moves;
  passes = c.sweep-swept.ensures.passes;
}

pub returns-clause-disks : goal.returns-clause-disks
returns-clause-disks g c = c.sweep-swept.ensures.disks
