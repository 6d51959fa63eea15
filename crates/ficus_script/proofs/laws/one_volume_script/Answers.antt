use Rattle.ficus_script.proofs.ScriptLaws.{no_bad_volume_line, one_bad_volume_line, one_volume_script}
use Rattle.ficus_script.proofs.laws.one_volume_script.Goals as goal

pub returns : goal.returns
returns c = record {
  lines = λ volumes bytes lines others few. one_volume_script volumes few bytes lines others;
  no_line = no_bad_volume_line;
  bad_line = one_bad_volume_line;
}
