use Rattle.ficus_entry.proofs.Left.{noted_left}
use Rattle.ficus_entry.proofs.Noted.{noted_whole}
use Rattle.ficus_entry.proofs.entries.Entries.without.Goals as goal

pub invariant_of-result : goal.invariant_of-result
invariant_of-result c =
    let fewer = c.in_ok-table.table.items in
    rw c.in_ok-table.ensures.edited
    (noted_whole fewer c.in_ok-index.index
    (noted_left c.args.self.now fewer c.args.ids.now c.len-count.ensures.rising c.in_ok-table.ensures.rising
    (rw (← c.self.view_is) c.in_ok-table.ensures.left) c.requires c.in_ok-index.index c.in_ok-index.ensures))

pub returns-clause-left : goal.returns-clause-left
returns-clause-left c = rw (← c.self.view_is) c.in_ok-table.ensures.left
