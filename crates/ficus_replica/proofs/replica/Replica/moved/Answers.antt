use Rattle.ficus_replica.proofs.Stepping.{moved_steps, next_is_free}
use Rattle.ficus_replica.proofs.replica.Replica.moved.Goals as goal

pub enter-requires : goal.enter-requires
enter-requires c =
    next_is_free c.requires.fits c.args.removed.now (rw (← c.in_ok-entries.ensures) c.kill_all.ensures.killed)

pub returns : goal.returns
returns c =
    rw c.in_ok-files.ensures.same
    (moved_steps c.requires.fits c.args.removed.now c.args.dir c.args.name.now c.args.target c.kill_all.new.self
    c.enter.new.entries c.requires.ready.left c.requires.ready.possible c.in_ok-enter.ensures.name
    c.kill_all.ensures.rising (rw (← c.in_ok-entries.ensures) c.kill_all.ensures.killed)
    c.in_ok-enter.ensures.rising c.in_ok-enter.ensures.adds)
