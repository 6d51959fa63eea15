use Rattle.ficus_names.proofs.directories.Directories.shown.Goals as goal

pub returns : goal.returns
returns c = rw (← c.in_ok-bindings_in.ensures) c.listing_of.ensures
