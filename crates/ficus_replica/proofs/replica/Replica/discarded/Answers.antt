use Rattle.std.specs.Prelude.{[]}
use Rattle.ficus_entry.proofs.KilledAll.{killed_none}
use Rattle.ficus_replica.proofs.Stepping.{discarded_steps, next_is_free}
use Rattle.ficus_replica.proofs.replica.Replica.discarded.Goals as goal

pub insert-requires : goal.insert-requires
insert-requires c =
    rw (c.in_ok-entries.ensures, c.attic_entry.ensures.place)
    (next_is_free c.requires.fits [] (killed_none c.args.self.now.saved.me _))

pub returns : goal.returns
returns c =
    discarded_steps c.requires.fits c.args.file c.attic_entry.result.state c.insert.new.self c.cover.new.self
    c.requires.ready.left c.requires.ready.possible c.attic_entry.ensures.removed c.in_ok-insert.ensures.rising
    (rw (← c.in_ok-entries.ensures, ← c.attic_entry.ensures.place) c.in_ok-insert.ensures.added)
    c.cover.ensures.files (rw (← c.in_ok-files.ensures.same) c.cover.ensures.changed)
