use Rattle.ficus_replica.proofs.LawfulRecords.{records_fitting}
use Rattle.ficus_replica.proofs.laws.records_fit.Goals as goal

pub returns : goal.returns
returns c = records_fitting
