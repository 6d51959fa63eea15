use Rattle.std.proofs.Common.{◌≡◌, arith, refl}
use Rattle.ficus_persistent.proofs.Rows.{at_in}
use Rattle.ficus_persistent.specs.Node.{IsSound}
use Rattle.ficus_persistent.specs.declared.tree.Node.TheVariants.{Fork}
use Rattle.ficus_persistent.specs.Shape.{joined}
use Rattle.ficus_persistent.proofs.tree.Tree.+first.Goals as goal

pub returns-in-Fork : goal.returns-in-Fork
returns-in-Fork g t c =
    let row = c.as_slice-below.result.now in
    let is : c.args.self.now.items ≡ joined row = grind arith in
    let sound : IsSound c.self.inside.height (Fork c.in-Fork.below) = rw c.in-Fork.is at c.self.invariant.1 in
    rw is
    (at_in row 0 0 0 c.index-below-0.result c.first.result.now (grind (arith, sound.several)) refl
    (rw (← c.index-below-0.is) c.first.ensures))
