use Rattle.ficus_entry.proofs.entries.Entries.names_of.Goals as goal

pub returns-clause-entries : goal.returns-clause-entries
returns-clause-entries c = λ id. (
  λ inside. (c.in_ok-noted_names_of.ensures id).0 ((c.once_each.ensures.same id).0 inside),
  λ such. (c.once_each.ensures.same id).1 ((c.in_ok-noted_names_of.ensures id).1 such),
)
