use Rattle.ficus_entry.proofs.entries.Entries.put.Goals as goal

pub returns-clause-put : goal.returns-clause-put
returns-clause-put c = rw (← c.in_ok-shared.ensures) c.put_shared.ensures.put
