use Rattle.ficus_record.proofs.encoding.put_fields.Goals as goal

pub returns-in-Move-clause-put : goal.returns-in-Move-clause-put
returns-in-Move-clause-put c = rw (c.in-Move.is, ← c.items-in-Move.ensures) c.put_moving.ensures.put

pub returns-in-Adopt-clause-put : goal.returns-in-Adopt-clause-put
returns-in-Adopt-clause-put c = rw c.in-Adopt.is c.put_adopting.ensures.put
