use Rattle.ficus_record.proofs.encoding.put_record.Goals as goal

pub returns-in-Change-clause-put : goal.returns-in-Change-clause-put
returns-in-Change-clause-put c = rw c.in-Change.is (c.put_change.ensures.put c.args.members)
