use Rattle.ficus_ids.proofs.Masks.{has-shr}
use Rattle.ficus_ids.proofs.marks.Marks.has.Goals as goal

pub returns : goal.returns
returns c = rw c.self.view_is (has-shr c.args.self c.args.replica c.requires.at_least)
