use Rattle.std.proofs.lemmas.Result.{err_from_is_err_and}
use Rattle.ficus_member.proofs.Makes.{note_tried, tag_failed}
use Rattle.ficus_member.proofs.making.make_beside.Goals as goal

pub returns-in_err-write_tag : goal.returns-in_err-write_tag
returns-in_err-write_tag g c =
    let given = err_from_is_err_and c.from_residual.result c.from_residual.ensures.1 in
    rw (given.1, given.2) (tag_failed c.in_err-write_tag.field-0.0 c.in_err-write_tag.ensures)

pub returns : goal.returns
returns g c =
    let wrote = c.in_ok-write_tag.ensures in
    let made = c.make_note.ensures in
    note_tried c.make_note.result
    (λ tells. record { written = wrote.written tells; durable = wrote.durable tells }) wrote.asked.steady made.noted
    made.durable made.kinds made.failed made.spared made.steady
