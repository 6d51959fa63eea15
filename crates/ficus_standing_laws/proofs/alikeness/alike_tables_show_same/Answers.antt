use Rattle.ficus_standing_laws.proofs.Existing.{alike_tables}
use Rattle.ficus_standing_laws.proofs.alikeness.alike_tables_show_same.Goals as goal

pub returns : goal.returns
returns c = alike_tables
