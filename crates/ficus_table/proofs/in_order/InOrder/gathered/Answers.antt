use Rattle.std.proofs.Common.{map}
use Rattle.ficus_table.proofs.Sound.{rising_seen}
use Rattle.ficus_table.proofs.in_order.InOrder.gathered.Goals as goal

pub invariant_of-result : goal.invariant_of-result
invariant_of-result g c =
    rising_seen g.R.Row.id_of g.R.Row.seen g.R.Row.formed (map (λ row. row.now) c.args.rows.items) c.requires
