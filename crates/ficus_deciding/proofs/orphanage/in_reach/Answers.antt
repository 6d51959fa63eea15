use Rattle.ficus_deciding.proofs.Orphanages.{reach_tables}
use Rattle.ficus_deciding.proofs.orphanage.in_reach.Goals as goal

pub returns : goal.returns
returns c = λ object.
    let tops = rw c.deref.ensures.value at (c.in_ok-reached.ensures.exact object) in
    let reach = reach_tables c.args.saved.now c.in_ok-tops.tops.items c.in_ok-tops.ensures object in
    let set = c.of.ensures object in (
      λ inside. reach.0 (tops.0 (set.0 inside)),
      λ is. set.1 (tops.1 (reach.1 is)),
    )
