use Rattle.ficus_replica.proofs.Accepts.{stale, taken}
use Rattle.ficus_replica.proofs.replica.Replica.accept_rows.Goals as goal

pub returns-in_err-awaited : goal.returns-in_err-awaited
returns-in_err-awaited c = stale c.requires c.in_err-awaited.ensures.stale c.from_residual.ensures.1

pub returns : goal.returns
returns c =
    taken c.args.from c.args.number c.args.entries.now c.args.files.now c.args.self.now c.take_rows.result c.requires
    c.in_ok-awaited.ensures.open c.take_rows.ensures
