use Rattle.ficus_replica.proofs.Leaving.{collected_once}
use Rattle.ficus_replica.proofs.laws.one_collection.Goals as goal

pub returns : goal.returns
returns c = λ old one other gives gives_too. collected_once gives gives_too
