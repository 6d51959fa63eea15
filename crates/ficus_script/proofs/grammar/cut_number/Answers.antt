use Rattle.std.proofs.Common.{◌≡◌, Some, None, sym, ◌∙◌, ap, arith}
use Rattle.ficus_script.specs.Arguments.{bytes_of}
use Rattle.ficus_script.proofs.VolumeLaws.{volume_front}
use Rattle.ficus_script.proofs.grammar.cut_number.Goals as goal

pub returns-in_err-text-clause-none : goal.returns-in_err-text-clause-none
returns-in_err-text-clause-none c =
    rw c.from_residual.ensures (λ volume text among same.
    let parts = volume_front c.args.volumes (omega arith) c.args.bytes.now _ _ volume text among c.cut_at.ensures.front
    c.cut_at.ensures.whole same in
    let none : None ≡ Some text = sym (ap bytes_of c.in_err-text.was) ∙ parts.1 in
    cc)

pub returns-in_err-volume-clause-none : goal.returns-in_err-volume-clause-none
returns-in_err-volume-clause-none c =
    rw c.from_residual-in_err-volume.ensures (λ volume text among same.
    let parts = volume_front c.args.volumes (omega arith) c.args.bytes.now _ _ volume text among c.cut_at.ensures.front
    c.cut_at.ensures.whole same in
    c.in_err-volume.ensures.none volume among parts.0)
