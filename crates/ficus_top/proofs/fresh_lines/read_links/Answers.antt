use Rattle.std.proofs.Common.{sym}
use Rattle.ficus_top.proofs.Begun.{unfailed_more}
use Rattle.ficus_top.proofs.fresh_lines.read_links.Goals as goal

pub loop-world-preserved : goal.loop-world-preserved
loop-world-preserved c =
    unfailed_more c.worlds-world-items.result.now c.loop-world.world-index c.world-item.result c.loop-world-test.true
    c.world-item.is (sym c.link.ensures.faults) c.loop-world.invariant
