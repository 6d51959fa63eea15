use Rattle.ficus_ids.proofs.Masks.{has-with}
use Rattle.ficus_ids.proofs.marks.Marks.with.Goals as goal

pub returns : goal.returns
returns c = rw c.self.view_is (λ other. has-with c.args.self c.args.replica other c.requires.at_least c.requires.at_most)
