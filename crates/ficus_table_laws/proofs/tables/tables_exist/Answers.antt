use Rattle.ficus_table_laws.proofs.Entries.{entries_exist}
use Rattle.ficus_table_laws.proofs.Files.{files_exist}
use Rattle.ficus_table_laws.proofs.tables.tables_exist.Goals as goal

pub returns-clause-entries : goal.returns-clause-entries
returns-clause-entries c = λ volume H replica lawful. entries_exist volume H replica lawful

pub returns-clause-files : goal.returns-clause-files
returns-clause-files c = λ volume H replica count lawful. files_exist volume H replica lawful count
