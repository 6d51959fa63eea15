use Rattle.ficus_durable_state.proofs.ChangedTables.{made_tables_fit, entered_tables_fit, written_tables_fit, covered_tables_fit}
use Rattle.ficus_durable_state.proofs.KilledTables.{killed_tables_fit}
use Rattle.ficus_durable_state.proofs.laws.changed_tables_fit.Goals as goal

pub returns-clause-made : goal.returns-clause-made
returns-clause-made c = made_tables_fit

pub returns-clause-entered : goal.returns-clause-entered
returns-clause-entered c = entered_tables_fit

pub returns-clause-killed : goal.returns-clause-killed
returns-clause-killed c = killed_tables_fit

pub returns-clause-written : goal.returns-clause-written
returns-clause-written c = written_tables_fit

pub returns-clause-covered : goal.returns-clause-covered
returns-clause-covered c = covered_tables_fit
