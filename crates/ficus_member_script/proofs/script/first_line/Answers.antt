use Rattle.std.proofs.Common.{refl, rules}
use Rattle.ficus_script.proofs.Scripts.{first_of_lines}
use Rattle.ficus_member_script.proofs.script.first_line.Goals as goal

pub returns-clause-lines : goal.returns-clause-lines
returns-clause-lines c =
    rw c.unwrap_or.ensures
    (first_of_lines c.args.bytes.now c.cut_line.result.0.now c.cut_line.result.1 _ refl (search rules) c.cut_line.ensures.front
    c.cut_line.ensures.whole)
