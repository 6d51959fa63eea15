use Rattle.ficus_entry.proofs.entries.Entries.naming.Goals as goal

pub returns-clause-entries : goal.returns-clause-entries
returns-clause-entries c = rw (← c.in_ok-in_order.ensures) c.in_ok-note_asked.ensures.entries
