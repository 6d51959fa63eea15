use Rattle.ficus_replica.proofs.Collects.{garbage_once}
use Rattle.ficus_replica.proofs.laws.one_garbage.Goals as goal

pub returns : goal.returns
returns c = λ members H replica one other garbage garbage_too. garbage_once garbage garbage_too
