use Rattle.ficus_table.proofs.Sound.{rising_shown}
use Rattle.ficus_table.proofs.table.Table.len.Goals as goal

pub returns-clause-rising : goal.returns-clause-rising
returns-clause-rising g c =
    rw (← c.self.view_is) (rising_shown g.R.Row.id_of g.R.Row.seen g.R.Row.formed _ c.self.inside.list _ c.self.invariant)
