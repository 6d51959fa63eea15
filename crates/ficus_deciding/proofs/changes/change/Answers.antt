use Rattle.ficus_deciding.proofs.changes.change.Goals as goal

pub returns-in-Write : goal.returns-in-Write
returns-in-Write c = rw (c.in-Write.is, ← c.items-in-Write.ensures) c.write.ensures

pub returns-in-Settle : goal.returns-in-Settle
returns-in-Settle c = rw (c.in-Settle.is, ← c.items-in-Settle.ensures) c.settle.ensures

pub returns-in-Ln : goal.returns-in-Ln
returns-in-Ln c = rw c.in-Ln.is c.link.ensures

pub returns-in-Mv : goal.returns-in-Mv
returns-in-Mv c = rw c.in-Mv.is c.rename.ensures

pub returns-in-Adopt : goal.returns-in-Adopt
returns-in-Adopt c = rw c.in-Adopt.is c.adopt.ensures

pub returns-in-Symlink : goal.returns-in-Symlink
returns-in-Symlink c = rw (c.in-Symlink.is, ← c.items.ensures) c.symlink.ensures
