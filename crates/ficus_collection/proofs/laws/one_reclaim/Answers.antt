use Rattle.ficus_collection.proofs.Left.{one_answer}
use Rattle.ficus_collection.proofs.laws.one_reclaim.Goals as goal

pub returns : goal.returns
returns c = one_answer
