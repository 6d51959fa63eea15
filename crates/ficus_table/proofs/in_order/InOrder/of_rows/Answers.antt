use Rattle.ficus_table.proofs.Sound.{rising_seen}
use Rattle.ficus_table.proofs.in_order.InOrder.of_rows.Goals as goal

pub invariant_of-result : goal.invariant_of-result
invariant_of-result g c =
    rising_seen g.R.Row.id_of g.R.Row.seen g.R.Row.formed c.args.rows.now c.requires
