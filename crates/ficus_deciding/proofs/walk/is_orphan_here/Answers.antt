use Rattle.ficus_deciding.proofs.Tables.{orphan_under}
use Rattle.ficus_deciding.proofs.walk.is_orphan_here.Goals as goal

pub returns-in-Some : goal.returns-in-Some
returns-in-Some c =
    let held = c.in-Some.ensures.found in
    let same = orphan_under c.requires held.0 held.1 in
    (λ truth. same.0 (c.is_orphan.ensures.0 truth), λ orphan. c.is_orphan.ensures.1 (same.1 orphan))
