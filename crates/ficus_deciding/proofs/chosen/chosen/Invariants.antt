use Rattle.std.proofs.Common.{take}
use Rattle.ficus_deciding.specs.Chosen.{AreIdsOf}
use Rattle.ficus_deciding.proofs.chosen.chosen.Given as goal

abbrev pub invariant-loop-index : goal.invariant-loop-index
invariant-loop-index g l = AreIdsOf (g.C.Choice.Chooses l.choice) (take l.index l.files) l.ids.items
