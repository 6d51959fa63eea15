use Rattle.ficus_orphan.proofs.Told.{left_is}
use Rattle.ficus_orphan.proofs.orphan.is_left.Goals as goal

pub returns-then-is_kept : goal.returns-then-is_kept
returns-then-is_kept c =
    let has = c.has.ensures in
    let means = c.requires c.args.file.now.id in
    left_is c.args.entries.now c.args.file.now c.has.result (c.is_kept.ensures.0 c.if-is_kept.true)
    (λ flag. means.0 (has.0 flag), λ named. has.1 (means.1 named))
