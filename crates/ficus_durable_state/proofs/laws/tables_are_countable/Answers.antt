use Rattle.ficus_durable_state.proofs.Countable.{tables_countable}
use Rattle.ficus_durable_state.proofs.laws.tables_are_countable.Goals as goal

pub returns : goal.returns
returns c = tables_countable
