use Rattle.ficus_removal_laws.proofs.Example.{drop_lawful, drop_dropped}
use Rattle.ficus_removal_laws.proofs.dropped.entries_are_dropped.Goals as goal

pub returns-clause-lawful : goal.returns-clause-lawful
returns-clause-lawful c = drop_lawful

pub returns-clause-dropped : goal.returns-clause-dropped
returns-clause-dropped c = drop_dropped
