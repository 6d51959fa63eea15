use Rattle.ficus_durable_state.proofs.ReclaimedTables.{reclaimed_tables_fit}
use Rattle.ficus_durable_state.proofs.laws.reclaimed_tables_fit.Goals as goal

pub returns : goal.returns
returns c = reclaimed_tables_fit
