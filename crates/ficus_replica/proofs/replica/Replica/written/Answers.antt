use Rattle.std.proofs.Common.{◌≡◌, rules}
use Rattle.ficus_replica.proofs.Stepping.{may_advance, written_steps}
use Rattle.ficus_replica.proofs.replica.Replica.written.Goals as goal

pub advance-requires-clause-held : goal.advance-requires-clause-held
advance-requires-clause-held c =
    rw c.in_ok-files.ensures.same (may_advance c.requires.fits c.args.file c.args.bytes.now c.requires.may)

pub returns : goal.returns
returns c = λ op overwrites.
    let copied : c.in_ok-bytes.bytes.items ≡ c.args.bytes.now = search rules in
    rw c.in_ok-entries.ensures
    (written_steps c.requires.fits op c.args.file c.args.bytes.now c.advance.new.self c.requires.left c.requires.may
    overwrites c.advance.ensures.files
    (rw (← c.in_ok-files.ensures.same, ← copied) c.advance.ensures.changed))
