use Rattle.std.proofs.Common.{refl}
use Rattle.ficus_deciding.proofs.NamedEntries.{full_tables, tables_full}
use Rattle.ficus_deciding.proofs.removing.is_full.Goals as goal

pub returns-then-is_directory : goal.returns-then-is_directory
returns-then-is_directory c = (
  λ is. full_tables c.args.saved.now (c.if-is_directory.ensures.0 refl) (c.live_inside.ensures.0 is),
  λ full. c.live_inside.ensures.1 (tables_full c.args.saved.now full),
)
