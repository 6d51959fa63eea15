use Rattle.std.proofs.Common.{arith}
use Rattle.ficus_reach.proofs.Gained.{gains_more}
use Rattle.ficus_reach.proofs.Taken.{Contains-take_more}
use Rattle.ficus_reach.proofs.found.Found.add_all.Goals as goal

pub loop-object-preserved : goal.loop-object-preserved
loop-object-preserved c = record {
  tracked = c.in_ok-add.ensures.tracked;
  gains = gains_more c.args.self.now.order.items c.loop-object.self.order.items c.add.new.self.order.items
      (Contains-take_more c.args.objects.now c.loop-object.object-index _ (omega arith)) c.loop-object.invariant.gains c.in_ok-add.ensures.gains;
}
