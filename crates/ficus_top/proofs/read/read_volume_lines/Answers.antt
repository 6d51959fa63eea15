use Rattle.std.proofs.Common.{◌≤◌, Err, ap, length, arith}
use Rattle.std.proofs.lemmas.Result.{err_from_is_err_and}
use Rattle.ficus_script.specs.Script.{MayStand}
use Rattle.ficus_script.specs.VolumeLine.{IsVolumeLine}
use Rattle.ficus_top.specs.Grammar.{of_volumes}
use Rattle.ficus_top.proofs.Endings.{takes_in}
use Rattle.ficus_top.proofs.Lines.{are_lines_of, told_within, volume_lines_within}
use Rattle.ficus_top.proofs.read.read_volume_lines.Goals as goal

pub returns-in-Ok-clause-each : goal.returns-in-Ok-clause-each
returns-in-Ok-clause-each g c =
    are_lines_of c.args.volumes c.deref.result.now c.in-Ok.lines.items c.in-Ok.ensures.script

pub returns-in-Ok-clause-count : goal.returns-in-Ok-clause-count
returns-in-Ok-clause-count g c =
    omega (
      arith,
      volume_lines_within c.args.volumes c.deref.result.now c.in-Ok.lines.items c.in-Ok.ensures.script,
      c.in_ok-bytes.ensures.limit,
    )

pub overflow_cast-result : goal.overflow_cast-result
overflow_cast-result g c =
    let within : c.in-Err-BadLine.line ≤ length c.deref.result.now =
    told_within (MayStand (IsVolumeLine c.args.volumes)) c.deref.result.now _ c.in-Err-BadLine.line
    c.in-Err-BadLine.field-0-is c.in-Err-BadLine.ensures.bad_line in
    omega (arith, within, c.in_ok-bytes.ensures.limit)

pub returns-in_err-bytes-clause-until : goal.returns-in_err-bytes-clause-until
returns-in_err-bytes-clause-until g c = λ tells.
    let given = err_from_is_err_and c.from_residual.result c.from_residual.ensures.1 in
    rw (given.1, given.2)
    (takes_in (of_volumes c.args.volumes) (g.S.Source.left c.args.input.now) (g.S.Source.left c.read_bytes.new.input)
    c.in_err-bytes.field-0.0 (λ line is. c.in_err-bytes.ensures.no_line line (ap Err is))
    (c.in_err-bytes.ensures.until tells))
