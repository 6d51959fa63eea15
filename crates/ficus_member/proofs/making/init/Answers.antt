use Rattle.std.proofs.lemmas.Result.{err_from_is_err_and}
use Rattle.ficus_member.proofs.Makes.{beside_failed, image_tried, looked_in_vain}
use Rattle.ficus_member.proofs.making.init.Goals as goal

pub make_beside-requires : goal.make_beside-requires
make_beside-requires g c = record { empty = λ tells. (c.in_ok-look_for_member.ensures.lies tells).1 }

pub returns-in_err-look_for_member : goal.returns-in_err-look_for_member
returns-in_err-look_for_member g c =
    let given = err_from_is_err_and c.from_residual.result c.from_residual.ensures.1 in
    rw (given.1, given.2) (looked_in_vain c.in_err-look_for_member.field-0.0 c.in_err-look_for_member.ensures)

pub returns-in_err-make_beside : goal.returns-in_err-make_beside
returns-in_err-make_beside g c =
    let given = err_from_is_err_and c.from_residual-in_err-make_beside.result c.from_residual-in_err-make_beside.ensures.1 in
    rw (given.1, given.2)
    (beside_failed c.in_ok-look_for_member.ensures c.in_err-make_beside.field-0.0 c.in_err-make_beside.ensures)

pub returns : goal.returns
returns g c =
    image_tried c.in_ok-look_for_member.ensures c.make_volume.result c.in_ok-make_beside.ensures c.requires.me
    c.make_volume.ensures
