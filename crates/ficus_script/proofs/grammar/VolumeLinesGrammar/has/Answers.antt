use Rattle.std.proofs.Common.{arith}
use Rattle.std.proofs.lemmas.Bool.{false≢true}
use Rattle.ficus_script.specs.Command.{command_text}
use Rattle.ficus_script.proofs.VolumeLaws.{line_cut, step_line, volume_line}
use Rattle.ficus_script.proofs.grammar.VolumeLinesGrammar.has.Goals as goal

pub returns-in-Some : goal.returns-in-Some
returns-in-Some c =
    let cut = c.in-Some.ensures.found in (
      λ yes. volume_line c.args.self.now.volumes (omega arith) c.args.line.now c.in-Some.text.now _ cut (c.is_step.ensures.0 yes),
      λ is. c.is_step.ensures.1 (step_line c.args.self.now.volumes (omega arith) c.args.line.now c.in-Some.text.now _ cut is),
    )

pub returns-in-None : goal.returns-in-None
returns-in-None c = (
  λ yes. absurd (false≢true yes),
  λ is. absurd (c.in-None.ensures.none is.0.volume (command_text is.0.command)
      (line_cut c.args.self.now.volumes (omega arith) is.0 c.args.line.now is.1)),
)
