use Rattle.std.proofs.Common.{sym, ◌∙◌}
use Rattle.std.proofs.lemmas.Bool.{false≢true}
use Rattle.ficus_script.proofs.CommandLaws.{line_is_step}
use Rattle.ficus_script.proofs.line.read_step.Goals as goal

pub returns-else-is_step : goal.returns-else-is_step
returns-else-is_step c = λ spelled.
    let is = line_is_step c.args.line.now c.in_ok-command.command c.in_ok-command.ensures.0 c.in_ok-command.ensures.1 spelled in
    false≢true (sym c.if-is_step.false ∙ c.is_step.ensures.1 is)
