use Rattle.ficus_final_laws.proofs.Conflict.{history_lawful, in_conflict, settled, orphaned}
use Rattle.ficus_final_laws.proofs.examples.files_are_orphans.Goals as goal

pub returns-clause-lawful : goal.returns-clause-lawful
returns-clause-lawful c = history_lawful

pub returns-clause-conflict : goal.returns-clause-conflict
returns-clause-conflict c = in_conflict

pub returns-clause-settled : goal.returns-clause-settled
returns-clause-settled c = settled

pub returns-clause-orphan : goal.returns-clause-orphan
returns-clause-orphan c = orphaned
