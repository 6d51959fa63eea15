use Rattle.std.proofs.Common.{◌+◌, ◌*◌, ◌≤◌, arith}
use Rattle.std.proofs.Math.Nat.{mul-le-mul}
use Rattle.ficus_persistent.proofs.Heights.{low_square}
use Rattle.ficus_persistent.proofs.laws.low_is_a_logarithm.Goals as goal

pub returns : goal.returns
returns c = λ count height low some.
    let square : (count + 1) * (count + 1) ≤ (2 * count) * (2 * count) = mul-le-mul (omega arith) (omega arith) in
    omega (arith, low_square count height low, square)
