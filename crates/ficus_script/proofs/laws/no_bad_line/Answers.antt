use Rattle.ficus_script.proofs.ScriptLaws.{no_bad_line}
use Rattle.ficus_script.proofs.laws.no_bad_line.Goals as goal

pub returns : goal.returns
returns c = no_bad_line
