use Rattle.std.specs.Prelude.{[]}
use Rattle.ficus_entry.proofs.KilledAll.{killed_none}
use Rattle.ficus_replica.proofs.Stepping.{named_steps, next_is_free}
use Rattle.ficus_replica.proofs.replica.Replica.named.Goals as goal

pub enter-requires : goal.enter-requires
enter-requires c =
    rw c.in_ok-entries.ensures (next_is_free c.requires.fits [] (killed_none c.args.self.now.saved.me _))

pub returns : goal.returns
returns c = λ op gives.
    rw c.in_ok-files.ensures.same
    (named_steps c.requires.fits op c.args.dir c.args.name.now c.args.target c.enter.new.entries c.requires.left
    c.requires.may gives c.in_ok-enter.ensures.name c.in_ok-enter.ensures.rising
    (rw (← c.in_ok-entries.ensures) c.in_ok-enter.ensures.adds))
