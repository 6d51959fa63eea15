use Rattle.std.proofs.Common.{◌≡◌, arith}
use Rattle.ficus_persistent.proofs.Rows.{at_in}
use Rattle.ficus_persistent.specs.Shape.{joined}
use Rattle.ficus_persistent.proofs.tree.Tree.+at.Goals as goal

pub returns-in-Fork : goal.returns-in-Fork
returns-in-Fork g t c =
    let row = c.as_slice-below.result.now in
    let is : c.args.self.now.items ≡ joined row = grind arith in
    let place = c.locate-place in
    rw is
    (at_in row place.result.child place.result.index c.args.index c.index-below-place.result c.at.result.now (grind arith) (grind arith)
    (rw (← c.index-below-place.is) c.at.ensures))
