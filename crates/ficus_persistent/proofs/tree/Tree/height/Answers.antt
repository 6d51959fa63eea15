use Rattle.std.proofs.Common.{length, arith}
use Rattle.ficus_persistent.proofs.Heights.{node_filled, low_where_filled, low_fits}
use Rattle.ficus_persistent.specs.Node.{items_of}
use Rattle.ficus_persistent.specs.Shape.{IsLow}
use Rattle.ficus_persistent.proofs.tree.Tree.height.Goals as goal

pub returns-clause-filled : goal.returns-clause-filled
returns-clause-filled g c =
    rw (← c.self.view_is) (node_filled c.self.inside.height c.self.inside.node c.self.invariant.1)

pub returns-clause-low : goal.returns-clause-low
returns-clause-low g c =
    rw (← c.self.view_is)
    (low_where_filled (length (items_of c.self.inside.node)) c.self.inside.height
    (node_filled c.self.inside.height c.self.inside.node c.self.invariant.1))

pub returns-clause-fits : goal.returns-clause-fits
returns-clause-fits g c =
    let low : IsLow (length (items_of c.self.inside.node)) c.self.inside.height =
    low_where_filled (length (items_of c.self.inside.node)) c.self.inside.height
    (node_filled c.self.inside.height c.self.inside.node c.self.invariant.1) in
    low_fits (length (items_of c.self.inside.node)) c.self.inside.height low (omega (arith, c.self.invariant.0))
