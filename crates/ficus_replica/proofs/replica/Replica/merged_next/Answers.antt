use Rattle.std.proofs.Common.{Ok}
use Rattle.ficus_replica.proofs.Accepts.{taken_noted}
use Rattle.ficus_replica.proofs.replica.Replica.merged_next.Goals as goal

pub returns-in-Ok-clause-noted : goal.returns-in-Ok-clause-noted
returns-in-Ok-clause-noted c =
    taken_noted c.args.entries.now c.args.files.now c.args.self.saved (Ok c.in-Ok.replica) c.requires.fits
    c.requires.tables c.requires.generation c.in-Ok.ensures
