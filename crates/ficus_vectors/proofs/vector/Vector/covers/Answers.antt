use Rattle.std.proofs.Common.{arith}
use Rattle.ficus_vectors.proofs.Counts.{not_covers}
use Rattle.ficus_vectors.proofs.vector.Vector.covers.Goals as goal

pub returns-then-self-i : goal.returns-then-self-i
returns-then-self-i c = (
  λ is. absurd cc,
  λ covers. absurd
      (not_covers c.self.inside.counts c.other.inside.counts c.loop-i.i c.self.invariant c.other.invariant (omega arith)
      (rw (← c.self.view_is, ← c.other.view_is) at covers)),
)
