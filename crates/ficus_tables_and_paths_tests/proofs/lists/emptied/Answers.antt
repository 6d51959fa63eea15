use Rattle.std.proofs.Common.{rules}
use Rattle.ficus_tables_and_paths_tests.proofs.lists.emptied.Goals as goal

pub remove-requires-then-not-is_empty-2 : goal.remove-requires-then-not-is_empty-2
remove-requires-then-not-is_empty-2 c = search rules
