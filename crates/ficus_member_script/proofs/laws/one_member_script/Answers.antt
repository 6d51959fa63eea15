use Rattle.ficus_script.proofs.ScriptLaws.{no_bad, one_first_bad, one_list}
use Rattle.ficus_script.specs.Script.{MayStand}
use Rattle.ficus_member_script.proofs.Begins.{one_line}
use Rattle.ficus_member_script.specs.MemberLine.{IsMemberLine, SpellsMemberLine}
use Rattle.ficus_member_script.proofs.laws.one_member_script.Goals as goal

pub returns : goal.returns
returns c = record {
  lines = λ bytes lines others. one_list SpellsMemberLine one_line bytes lines others;
  no_line = λ bytes lines line.
      no_bad SpellsMemberLine IsMemberLine (λ one spelled is. λ none. none one is) bytes lines line;
  bad_line = λ bytes line other. one_first_bad (MayStand IsMemberLine) bytes line other;
}
