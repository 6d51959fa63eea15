use Rattle.ficus_replica.proofs.Looking.{look_stands}
use Rattle.ficus_replica.proofs.laws.looks_stand.Goals as goal

pub returns : goal.returns
returns c = λ replica look result gives volume H lawful stands. look_stands lawful stands look result gives
