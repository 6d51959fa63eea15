use Rattle.ficus_durable_state.proofs.TableFiles.{are_files}
use Rattle.ficus_replica.proofs.replica.Replica.take.Goals as goal

pub of-requires : goal.of-requires
of-requires c = are_files _ _ _ c.requires.tables
