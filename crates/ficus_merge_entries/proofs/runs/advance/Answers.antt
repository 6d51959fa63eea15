use Rattle.ficus_merge_entries.proofs.Running.{takes_on}
use Rattle.ficus_merge_entries.proofs.runs.advance.Goals as goal

pub returns-in_ok-head-clause-at : goal.returns-in_ok-head-clause-at
returns-in_ok-head-clause-at g c whole i takes =
    rw c.if-is_taken.true (takes_on whole i (g.A.Run.left c.args.run.now) (g.A.Run.left c.next.new.self) c.args.head.now
    c.in_ok-head.field-0 takes (c.requires c.if-is_taken.true) c.in_ok-head.ensures.taken)
