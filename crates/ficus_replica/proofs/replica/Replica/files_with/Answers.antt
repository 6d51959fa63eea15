use Rattle.std.proofs.Common.{◌≡◌, rules}
use Rattle.ficus_replica.proofs.Stepping.{same_ok}
use Rattle.ficus_replica.proofs.replica.Replica.files_with.Goals as goal

pub returns-clause-adds : goal.returns-clause-adds
returns-clause-adds c =
    let copied : c.in_ok-text.text.items ≡ c.args.text.now = search rules in
    rw (← c.in_ok-files.ensures.same, ← c.next_id.ensures, ← copied, ← same_ok _ _ c.in_ok-file.ensures.made)
    c.in_ok-insert.ensures.added
