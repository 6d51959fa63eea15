use Rattle.ficus_replica.proofs.Saves.{saved_once}
use Rattle.ficus_replica.proofs.laws.one_saved.Goals as goal

pub returns : goal.returns
returns c = λ volume H replica one other is is_too. saved_once is is_too
