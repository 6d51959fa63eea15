use Rattle.std.proofs.lemmas.Result.{err_from_is_err_and}
use Rattle.ficus_member.proofs.Makes.{both_looked, file_failed, slots_failed}
use Rattle.ficus_member.proofs.making.look_beside.Goals as goal

pub returns-in_err-are_slots_empty : goal.returns-in_err-are_slots_empty
returns-in_err-are_slots_empty g c =
    let given = err_from_is_err_and c.from_residual.result c.from_residual.ensures.1 in
    rw (given.1, given.2) (slots_failed c.in_err-are_slots_empty.field-0.0 c.in_err-are_slots_empty.ensures)

pub returns-in_err-is_volume_empty : goal.returns-in_err-is_volume_empty
returns-in_err-is_volume_empty g c =
    let given = err_from_is_err_and c.from_residual-in_err-is_volume_empty.result c.from_residual-in_err-is_volume_empty.ensures.1 in
    let looks = c.in_err-is_volume_empty.ensures in
    rw (given.1, given.2)
    (file_failed c.in_ok-are_slots_empty.are_slots_empty c.in_ok-are_slots_empty.ensures looks.rests
    c.in_err-is_volume_empty.field-0.0 looks.kinds looks.asked)

pub returns : goal.returns
returns g c =
    let looks = c.in_ok-is_volume_empty.ensures in
    both_looked c.in_ok-are_slots_empty.are_slots_empty c.in_ok-are_slots_empty.ensures looks.rests
    c.in_ok-is_volume_empty.is_volume_empty c.both.result looks.asked looks.empty c.both.ensures
