use Rattle.std.proofs.Common.{arith, sym, ◌∙◌}
use Rattle.ficus_persistent.proofs.Cuts.{front_passes, back_fails}
use Rattle.ficus_persistent.proofs.below.cut_through.Goals as goal

pub loop-low-preserved-then-is_before : goal.loop-low-preserved-then-is_before
loop-low-preserved-then-is_before g c = record {
  order = omega arith;
  within = omega arith;
  front = front_passes (g.C.Cut.is_before c.args.cut.now) c.args.row.now c.requires.parted _
      c.index-row-middle.result c.first.result.now (omega arith)
      (rw (← c.index-row-middle.is) c.first.ensures) (sym c.is_before.ensures ∙ c.if-is_before.true);
  back = c.loop-low.invariant.back;
}

pub loop-low-preserved : goal.loop-low-preserved
loop-low-preserved g c = record {
  order = omega arith;
  within = omega arith;
  front = c.loop-low.invariant.front;
  back = back_fails (g.C.Cut.is_before c.args.cut.now) c.args.row.now c.requires.parted _
      c.index-row-middle.result c.first.result.now (omega arith)
      (rw (← c.index-row-middle.is) c.first.ensures) (sym c.is_before.ensures ∙ c.if-is_before.false);
}
