use Rattle.std.proofs.Common.{arith}
use Rattle.ficus_world.proofs.taking.place_in.Goals as goal

pub overflow_add-result : goal.overflow_add-result
overflow_add-result c = omega (arith, c.lacks_only.ensures.few, c.len-have.ensures)
