use Rattle.ficus_replica.proofs.replica.Replica.enter.Goals as goal

pub returns-clause-adds : goal.returns-clause-adds
returns-clause-adds c = rw (← c.next_id.ensures, ← c.in_ok-entry.ensures.entry) c.in_ok-insert.ensures.added
