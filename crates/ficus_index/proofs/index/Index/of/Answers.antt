use Rattle.ficus_index.proofs.index.Index.of.Goals as goal

pub returns : goal.returns
returns c = rw (c.in_ok-notes.ensures, c.deref.ensures.value) c.sort.ensures.same
