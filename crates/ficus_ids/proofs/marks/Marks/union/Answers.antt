use Rattle.ficus_ids.specs.MarksLaws.{has-or}
use Rattle.ficus_ids.proofs.marks.Marks.union.Goals as goal

pub returns : goal.returns
returns c = rw (c.self.view_is, c.other.view_is) (has-or c.args.self c.args.other)
