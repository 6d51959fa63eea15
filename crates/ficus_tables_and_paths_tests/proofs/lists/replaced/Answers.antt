use Rattle.std.proofs.Common.{rules}
use Rattle.ficus_tables_and_paths_tests.proofs.lists.replaced.Goals as goal

pub offset_bounds-plain-index : goal.offset_bounds-plain-index
offset_bounds-plain-index c = search rules

pub bounds-plain-index : goal.bounds-plain-index
bounds-plain-index c = search rules
