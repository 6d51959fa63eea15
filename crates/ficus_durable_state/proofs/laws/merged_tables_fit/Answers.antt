use Rattle.ficus_durable_state.proofs.MergedTables.{merged_tables_fit}
use Rattle.ficus_durable_state.proofs.laws.merged_tables_fit.Goals as goal

pub returns : goal.returns
returns c = merged_tables_fit
