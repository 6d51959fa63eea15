use Rattle.std.proofs.Common.{rules}
use Rattle.ficus_tables_and_paths_tests.proofs.lists.extended.Goals as goal

pub loop-value-preserved : goal.loop-value-preserved
loop-value-preserved c = search rules
