use Rattle.ficus_ids.specs.MarksLaws.{same_marks}
use Rattle.ficus_ids.proofs.marks.same_marks.Goals as goal

pub returns : goal.returns
returns c = same_marks
