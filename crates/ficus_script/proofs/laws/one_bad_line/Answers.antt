use Rattle.ficus_script.proofs.ScriptLaws.{one_bad_line}
use Rattle.ficus_script.proofs.laws.one_bad_line.Goals as goal

pub returns : goal.returns
returns c = one_bad_line
