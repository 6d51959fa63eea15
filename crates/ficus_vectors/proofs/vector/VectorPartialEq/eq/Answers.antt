use Rattle.std.proofs.Common.{rules}
use Rattle.ficus_vectors.proofs.Counts.{in_order_is}
use Rattle.ficus_vectors.proofs.vector.VectorPartialEq.eq.Goals as goal

pub returns : goal.returns
returns c = search (rules, in_order_is)
