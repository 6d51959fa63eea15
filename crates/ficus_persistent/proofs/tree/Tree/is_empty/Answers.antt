use Rattle.std.proofs.Common.{arith}
use Rattle.ficus_persistent.proofs.Heights.{node_stands, node_lies}
use Rattle.ficus_persistent.proofs.tree.Tree.is_empty.Goals as goal

pub returns-clause-height : goal.returns-clause-height
returns-clause-height g c =
    let n = c.self.inside.node in
    let stands = node_stands c.self.inside.height n c.self.invariant.1 in
    let lies = node_lies c.self.inside.height n c.self.invariant.1 in grind (arith, stands, lies)
