use Rattle.ficus_final_laws.proofs.FileDone.{history_lawful, entry_dropped, file_done}
use Rattle.ficus_final_laws.proofs.examples.files_are_done.Goals as goal

pub returns-clause-lawful : goal.returns-clause-lawful
returns-clause-lawful c = history_lawful

pub returns-clause-dropped : goal.returns-clause-dropped
returns-clause-dropped c = entry_dropped

pub returns-clause-done : goal.returns-clause-done
returns-clause-done c = file_done
