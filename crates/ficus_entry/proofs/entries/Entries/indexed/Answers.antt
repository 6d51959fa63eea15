use Rattle.ficus_entry.proofs.Noted.{noted_whole}
use Rattle.ficus_entry.proofs.entries.Entries.indexed.Goals as goal

pub invariant_of-result : goal.invariant_of-result
invariant_of-result c =
    rw c.requires (noted_whole c.args.table.items c.in_ok-index.index c.in_ok-index.ensures)
