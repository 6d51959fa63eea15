use Rattle.ficus_entry.proofs.Noted.{noted_whole}
use Rattle.ficus_entry.proofs.entries.Entries.copy.Goals as goal

pub invariant_of-result : goal.invariant_of-result
invariant_of-result c =
    rw (c.in_ok-table.ensures.items, c.in_ok-table.ensures.edited, c.self.view_is)
    (noted_whole c.args.self.now c.in_ok-index.index c.in_ok-index.ensures)
