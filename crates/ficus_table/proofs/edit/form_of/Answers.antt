use Rattle.std.proofs.Common.{◌≡◌, sym, Some, None, position, ◌==◌}
use Rattle.ficus_table.proofs.Shown.{form_by, form_none}
use Rattle.ficus_table.proofs.edit.form_of.Goals as goal

pub returns-in_err-place : goal.returns-in_err-place
returns-in_err-place g c =
    let none : position (λ edit. edit.index == c.args.index) c.args.edits.now ≡ None = cc (c.in_err-place.ensures) in
    let is = form_none c.args.edits.now c.args.index none in
    cc (c.from_residual.ensures, is)

pub returns : goal.returns
returns g c =
    let some : position (λ edit. edit.index == c.args.index) c.args.edits.now ≡ Some c.in_ok-place.place =
    cc (c.in_ok-place.ensures) in
    sym (form_by c.args.edits.now c.args.index c.in_ok-place.place c.index-edits-place.result some)
