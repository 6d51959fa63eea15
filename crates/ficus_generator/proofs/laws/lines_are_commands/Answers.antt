use Rattle.ficus_generator.proofs.ScriptLines.{has_lines}
use Rattle.ficus_generator.proofs.laws.lines_are_commands.Goals as goal

pub returns : goal.returns
returns c = has_lines
