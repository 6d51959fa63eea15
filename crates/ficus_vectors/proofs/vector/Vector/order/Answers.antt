use Rattle.ficus_vectors.specs.Vector.{vector_cmp}
use Rattle.ficus_vectors.proofs.Counts.{in_order_is}
use Rattle.ficus_vectors.proofs.vector.Vector.order.Goals as goal

pub returns : goal.returns
unfolding vector_cmp
returns c =
    rw (
      in_order_is c.self.inside.counts c.args.self c.self.invariant c.self.view_is,
      in_order_is c.other.inside.counts c.args.other c.other.invariant
          c.other.view_is,
    ) at c.cmp.ensures
