use Rattle.std.proofs.Common.{◌≡◌, take, arith}
use Rattle.std.proofs.lemmas.Grind.{common_steps}
use Rattle.ficus_deciding.proofs.Orphanages.{tops_tables}
use Rattle.ficus_deciding.proofs.orphanage.tops.Goals as goal

pub returns : goal.returns
returns c = λ top.
    let orphans = c.in_ok-orphans.orphans.items in
    let whole : take c.loop-orphan.orphan-index c.deref-orphan-items.result.now ≡ c.deref-orphan-items.result.now =
    grind (arith, common_steps) in
    let tops = rw c.deref-orphan-items.ensures.value at (rw whole at c.loop-orphan.invariant) in
    rw tops (tops_tables c.args.saved.now orphans c.in_ok-orphans.ensures top)
