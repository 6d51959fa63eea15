use Rattle.std.proofs.Common.{arith}
use Rattle.ficus_wire.proofs.Rising.{few}
use Rattle.ficus_wire.proofs.parts.Parts.len.Goals as goal

pub overflow_cast-result : goal.overflow_cast-result
overflow_cast-result c =
    omega (arith, few 0 c.self.inside.pieces c.self.inside.have.entries (omega arith) c.self.invariant.1, c.self.invariant.0, c.len.ensures.len)
