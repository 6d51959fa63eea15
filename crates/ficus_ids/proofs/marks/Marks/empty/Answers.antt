use Rattle.ficus_ids.specs.MarksLaws.{has-zero}
use Rattle.ficus_ids.proofs.marks.Marks.empty.Goals as goal

pub returns : goal.returns
returns c = has-zero
