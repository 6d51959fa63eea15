use Rattle.std.proofs.Common.{◌≤◌, Err, ap, length, arith}
use Rattle.std.proofs.lemmas.Result.{err_from_is_err_and}
use Rattle.ficus_member_script.specs.MemberLine.{IsMemberLine}
use Rattle.ficus_script.specs.Script.{MayStand}
use Rattle.ficus_top.proofs.Endings.{takes_in}
use Rattle.ficus_top.proofs.Lines.{told_within}
use Rattle.ficus_member.specs.Lines.{of_member_lines}
use Rattle.ficus_member.proofs.running.read_lines.Goals as goal

pub overflow_cast-result : goal.overflow_cast-result
overflow_cast-result g c =
    let within : c.in-Err-BadLine.line ≤ length c.deref.result.now =
    told_within (MayStand IsMemberLine) c.deref.result.now _ c.in-Err-BadLine.line c.in-Err-BadLine.field-0-is
    c.in-Err-BadLine.ensures.bad_line in
    omega (arith, within, c.in_ok-bytes.ensures.limit)

pub returns-in_err-bytes-clause-until : goal.returns-in_err-bytes-clause-until
returns-in_err-bytes-clause-until g c = λ tells.
    let given = err_from_is_err_and c.from_residual.result c.from_residual.ensures.1 in
    rw (given.1, given.2)
    (takes_in of_member_lines (g.S.Source.left c.args.input.now) (g.S.Source.left c.read_bytes.new.input)
    c.in_err-bytes.field-0.0 (λ line is. c.in_err-bytes.ensures.no_line line (ap Err is))
    (c.in_err-bytes.ensures.until tells))
