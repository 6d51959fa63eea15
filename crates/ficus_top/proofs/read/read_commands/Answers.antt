use Rattle.std.proofs.Common.{◌≤◌, length, arith}
use Rattle.ficus_script.specs.Script.{IsScriptLine}
use Rattle.ficus_top.proofs.Lines.{commands_within, told_within}
use Rattle.ficus_top.proofs.read.read_commands.Goals as goal

pub returns-in-Ok-clause-count : goal.returns-in-Ok-clause-count
returns-in-Ok-clause-count g c =
    omega (
      arith,
      commands_within c.deref.result.now c.in-Ok.commands.items c.in-Ok.ensures.script,
      c.in_ok-bytes.ensures.limit,
    )

pub overflow_cast-result : goal.overflow_cast-result
overflow_cast-result g c =
    let within : c.in-Err-BadLine.line ≤ length c.deref.result.now =
    told_within IsScriptLine c.deref.result.now _ c.in-Err-BadLine.line c.in-Err-BadLine.field-0-is
    c.in-Err-BadLine.ensures.bad_line in
    omega (arith, within, c.in_ok-bytes.ensures.limit)
