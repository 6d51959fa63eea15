use Rattle.ficus_replica.proofs.Changing.{change_holds}
use Rattle.ficus_replica.proofs.laws.changes_stand.Goals as goal

pub returns : goal.returns
returns c = change_holds
