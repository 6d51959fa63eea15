use Rattle.std.proofs.Common.{take, Contains}
use Rattle.ficus_reach.proofs.Gained.{IsGaining}
use Rattle.ficus_reach.proofs.found.Found.add_all.Given as goal

abbrev pub invariant-loop-object : goal.invariant-loop-object
invariant-loop-object l =
    IsGaining l.initial.self.order.items l.self.set l.self.order.items (Contains (take l.object-index l.objects))
