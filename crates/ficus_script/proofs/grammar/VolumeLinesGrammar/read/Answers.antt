use Rattle.std.proofs.Common.{arith}
use Rattle.std.proofs.lemmas.Result.{err_from_is_err_and}
use Rattle.ficus_script.specs.Command.{command_text}
use Rattle.ficus_script.proofs.VolumeLaws.{line_cut, reading_err}
use Rattle.ficus_script.proofs.grammar.VolumeLinesGrammar.read.Goals as goal

pub returns-in_default : goal.returns-in_default
returns-in_default c = λ is.
    c.in_default.ensures.none is.0.volume (command_text is.0.command)
    (line_cut c.args.self.now.volumes (omega arith) is.0 c.args.line.now is.1)

pub returns-in_err-command : goal.returns-in_err-command
returns-in_err-command c =
    let p = err_from_is_err_and c.from_residual.result c.from_residual.ensures.1 in
    rw (p.1, p.2)
    (reading_err c.args.self.now.volumes (omega arith) c.args.line.now c.in-Some.text.now c.in-Some.volume
    c.in-Some.ensures.found _ c.in_err-command.ensures)
