use Rattle.std.proofs.Common.{take}
use Rattle.ficus_ids.specs.declared.id.Id.{Id}
use Rattle.ficus_reach.specs.Edge.{Edges}
use Rattle.ficus_reach.proofs.Gained.{IsGaining}
use Rattle.ficus_reach.proofs.found.Found.add_targets.Given as goal

abbrev pub invariant-loop-edge : goal.invariant-loop-edge
invariant-loop-edge l =
    IsGaining l.initial.self.order.items l.self.set l.self.order.items (λ gained. (dir : Id) × Edges (take l.edge-index l.edges) dir gained)
