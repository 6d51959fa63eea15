use Rattle.std.proofs.Common.{arith}
use Rattle.ficus_vectors.proofs.Counts.{join_from}
use Rattle.ficus_vectors.proofs.vector.Vector.join.Goals as goal

pub returns : goal.returns
returns c =
    rw (← c.self.view_is, ← c.other.view_is)
    (join_from c.loop-i.counts c.self.inside.counts c.other.inside.counts c.self.invariant c.other.invariant
    (λ k within. c.loop-i.invariant.1 k (omega arith)))
