use Rattle.std.specs.Prelude.{[]}
use Rattle.ficus_entry.proofs.KilledAll.{killed_none}
use Rattle.ficus_replica.proofs.Stepping.{made_steps, next_is_free}
use Rattle.ficus_replica.proofs.replica.Replica.made.Goals as goal

pub enter-requires : goal.enter-requires
enter-requires c =
    rw c.in_ok-entries.ensures (next_is_free c.requires.fits [] (killed_none c.args.self.now.saved.me _))

pub returns : goal.returns
returns c =
    made_steps c.requires.fits c.args.dir c.args.name.now c.args.kind c.args.text.now c.enter.new.entries c.in_ok-files.files
    c.requires.ready.left c.requires.ready.possible c.in_ok-enter.ensures.name c.in_ok-enter.ensures.rising
    (rw (← c.in_ok-entries.ensures) (rw c.next_id.ensures at c.in_ok-enter.ensures.adds)) c.in_ok-files.ensures.files
    c.in_ok-files.ensures.adds
