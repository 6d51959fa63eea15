use Rattle.std.proofs.Common.{drop}
use Rattle.ficus_deciding.proofs.WalkSteps.{HasReached}
use Rattle.ficus_deciding.proofs.walk.walk.Given as goal

abbrev pub invariant-loop-part : goal.invariant-loop-part
invariant-loop-part l = HasReached l.saved l.fn.base l.parts l.object (drop l.part-index l.parts)
