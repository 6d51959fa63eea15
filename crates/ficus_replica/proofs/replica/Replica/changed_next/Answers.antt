use Rattle.ficus_replica.proofs.Fitting.{spelled_form, update_ready}
use Rattle.ficus_replica.proofs.replica.Replica.changed_next.Goals as goal

pub saved_after-requires-clause-ready : goal.saved_after-requires-clause-ready
saved_after-requires-clause-ready c =
    update_ready c.requires.fits c.args.op.now (spelled_form c.args.op.now c.requires.spelled)
    (c.fits_update.ensures.0 c.if-not-fits_update.false)
