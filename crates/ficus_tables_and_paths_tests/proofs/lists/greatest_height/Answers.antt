use Rattle.std.proofs.Common.{rules}
use Rattle.ficus_tables_and_paths_tests.proofs.lists.greatest_height.Goals as goal

pub loop-order-preserved : goal.loop-order-preserved
loop-order-preserved c = search rules
