use Rattle.ficus_held_file_laws.proofs.Entries.{entries_once}
use Rattle.ficus_held_file_laws.proofs.Files.{files_once}
use Rattle.ficus_held_file_laws.proofs.tables.tables_are_one.Goals as goal

pub returns-clause-entries : goal.returns-clause-entries
returns-clause-entries c = λ members H replica entries others held held_too. entries_once held held_too

pub returns-clause-files : goal.returns-clause-files
returns-clause-files c = λ members H replica files others held held_too. files_once held held_too
