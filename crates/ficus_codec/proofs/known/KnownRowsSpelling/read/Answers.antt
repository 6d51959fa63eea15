use Rattle.ficus_codec.proofs.known.KnownRowsSpelling.read.Goals as goal

pub returns : goal.returns
returns g c = rw (c.in_default.ensures.kept, c.self.view_is) at c.read_new.ensures
