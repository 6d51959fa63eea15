use Rattle.std.proofs.Common.{◌≡◌, arith}
use Rattle.ficus_script.proofs.Numbers.{one_number}
use Rattle.ficus_script.proofs.replica.read_replica.Goals as goal

pub returns-in_default-clause-none : goal.returns-in_default-clause-none
returns-in_default-clause-none c = λ replica number same.
    let e : c.in_ok-replica.replica ≡ replica = one_number _ _ replica (omega arith) c.in_ok-replica.ensures.found number same in
    omega (arith, number.at_least, number.at_most)

pub returns-in_default-2-clause-none : goal.returns-in_default-2-clause-none
returns-in_default-2-clause-none c = λ replica number same.
    let e : c.in_ok-replica.replica ≡ replica = one_number _ _ replica (omega arith) c.in_ok-replica.ensures.found number same in
    omega (arith, number.at_least, number.at_most)
