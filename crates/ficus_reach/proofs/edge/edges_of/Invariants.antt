use Rattle.ficus_reach.proofs.Known.{AreEdges}
use Rattle.ficus_reach.proofs.edge.edges_of.Given as goal

abbrev pub invariant-loop-index : goal.invariant-loop-index
invariant-loop-index l = AreEdges l.edges.items l.entries l.index
