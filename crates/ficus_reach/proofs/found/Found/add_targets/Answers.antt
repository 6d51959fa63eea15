use Rattle.std.proofs.Common.{◌≡◌, take, arith}
use Rattle.std.proofs.lemmas.Grind.{common_steps}
use Rattle.ficus_reach.proofs.Gained.{gains_more}
use Rattle.ficus_reach.proofs.Taken.{IsTarget-take_more}
use Rattle.ficus_reach.proofs.found.Found.add_targets.Goals as goal

pub loop-edge-preserved : goal.loop-edge-preserved
loop-edge-preserved c = record {
  tracked = c.in_ok-add.ensures.tracked;
  gains = gains_more c.args.self.now.order.items c.loop-edge.self.order.items c.add.new.self.order.items
      (IsTarget-take_more c.args.edges.now c.loop-edge.edge-index _ (omega arith)) c.loop-edge.invariant.gains c.in_ok-add.ensures.gains;
}

pub returns-clause-gains : goal.returns-clause-gains
returns-clause-gains c =
    let whole : take c.loop-edge.edge-index c.args.edges.now ≡ c.args.edges.now = grind (arith, common_steps) in
    rw whole at c.loop-edge.invariant.gains
