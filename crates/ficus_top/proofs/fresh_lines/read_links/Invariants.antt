use Rattle.std.proofs.Common.{take}
use Rattle.ficus_top.specs.Fresh.{AreUnfailed}
use Rattle.ficus_top.proofs.fresh_lines.read_links.Given as goal

abbrev pub invariant-loop-world : goal.invariant-loop-world
invariant-loop-world l = AreUnfailed (take l.world-index l.world-items)
