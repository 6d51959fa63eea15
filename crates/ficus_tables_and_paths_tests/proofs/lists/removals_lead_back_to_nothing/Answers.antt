use Rattle.std.proofs.Common.{rules}
use Rattle.ficus_tables_and_paths_tests.proofs.lists.removals_lead_back_to_nothing.Goals as goal

pub loop-order-preserved : goal.loop-order-preserved
loop-order-preserved g c = search rules
