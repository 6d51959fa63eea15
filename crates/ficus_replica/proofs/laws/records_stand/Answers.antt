use Rattle.ficus_replica.proofs.Recorded.{records_hold}
use Rattle.ficus_replica.proofs.laws.records_stand.Goals as goal

pub returns : goal.returns
returns c = records_hold
