use Rattle.std.proofs.lemmas.Bool.{false≢true}
use Rattle.ficus_script.proofs.CommandLaws.{step_line, line_step, no_arguments}
use Rattle.ficus_script.proofs.line.is_step.Goals as goal

pub returns-in-Some : goal.returns-in-Some
returns-in-Some c = (
  λ yes. step_line c.args.line.now _ _ _ c.cut_line-by.ensures _ c.in-Some.ensures (c.is_step_of.ensures.0 yes),
  λ spelled. c.is_step_of.ensures.1 (line_step c.args.line.now _ _ _ c.cut_line-by.ensures _ c.in-Some.ensures spelled),
)

pub returns-in-None : goal.returns-in-None
returns-in-None c = (
  λ yes. absurd (false≢true yes),
  λ spelled. absurd (no_arguments c.args.line.now _ _ _ c.cut_line-by.ensures c.in-None.ensures (spelled.0, spelled.1, spelled.2)),
)
