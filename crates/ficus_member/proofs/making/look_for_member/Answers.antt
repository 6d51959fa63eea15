use Rattle.std.proofs.lemmas.Result.{err_from_is_err_and}
use Rattle.ficus_member.proofs.Makes.{lies_failed, looked_at_both, own_failed}
use Rattle.ficus_member.proofs.making.look_for_member.Goals as goal

pub returns-in_err-is_own_empty : goal.returns-in_err-is_own_empty
returns-in_err-is_own_empty g c =
    let given = err_from_is_err_and c.from_residual.result c.from_residual.ensures.1 in
    rw (given.1, given.2)
    (own_failed c.in_err-is_own_empty.field-0.0 c.in_err-is_own_empty.ensures.kinds
    c.in_err-is_own_empty.ensures.looked)

pub returns-in_err-is_beside_empty : goal.returns-in_err-is_beside_empty
returns-in_err-is_beside_empty g c =
    let given = err_from_is_err_and c.from_residual-in_err-is_beside_empty.result c.from_residual-in_err-is_beside_empty.ensures.1 in
    rw (given.1, given.2)
    (lies_failed c.in_ok-is_own_empty.is_own_empty c.in_err-is_beside_empty.field-0.0 c.in_ok-is_own_empty.ensures.looked
    c.in_err-is_beside_empty.ensures)

pub returns : goal.returns
returns g c =
    looked_at_both c.in_ok-is_own_empty.is_own_empty c.in_ok-is_beside_empty.is_beside_empty c.both.result
    c.free_or_occupied.result c.in_ok-is_own_empty.ensures.looked c.in_ok-is_beside_empty.ensures
    c.in_ok-is_own_empty.ensures.empty c.both.ensures c.free_or_occupied.ensures.free
    c.free_or_occupied.ensures.occupied
