use Rattle.ficus_replica.proofs.Stepping.{removed_steps}
use Rattle.ficus_replica.proofs.replica.Replica.removed.Goals as goal

pub returns : goal.returns
returns c =
    removed_steps c.requires.fits c.args.removed.now c.args.target c.kill_all.new.self c.cover.new.self
    c.requires.ready.left c.kill_all.ensures.rising (rw (← c.in_ok-entries.ensures) c.kill_all.ensures.killed)
    c.cover.ensures.files (rw (← c.in_ok-files.ensures.same) c.cover.ensures.changed)
