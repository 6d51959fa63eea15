use Rattle.std.proofs.Common.{refl, arith}
use Rattle.ficus_opening.proofs.check.Numbering.{lines_next}
use Rattle.ficus_top.specs.Summary.Text.{holding_line}
use Rattle.ficus_top.proofs.summary.text.append_holdings.Goals as goal

pub loop-index-preserved : goal.loop-index-preserved
loop-index-preserved c = record {
  within = omega arith;
  text = lines_next holding_line c.args.holdings.now c.loop-index.index (record { live = 0; dead = 0; objects = 0 }) _ _
      c.loop-index.text.items _ c.loop-index-test.true refl c.loop-index.invariant.text c.in_ok-append_holding.ensures;
}
