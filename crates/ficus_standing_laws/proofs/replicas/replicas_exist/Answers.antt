use Rattle.ficus_standing_laws.proofs.Existing.{replica_exists}
use Rattle.ficus_standing_laws.proofs.replicas.replicas_exist.Goals as goal

pub returns : goal.returns
returns c = replica_exists
