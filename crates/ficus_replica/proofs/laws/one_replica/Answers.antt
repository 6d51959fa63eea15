use Rattle.ficus_replica.proofs.Standing.{replica_once}
use Rattle.ficus_replica.proofs.laws.one_replica.Goals as goal

pub returns : goal.returns
returns c = λ volume H number one other stands stands_too. replica_once stands stands_too
