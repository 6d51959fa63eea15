use Rattle.std.proofs.Common.{take}
use Rattle.ficus_names.proofs.Among.{AreAmong}
use Rattle.ficus_names.proofs.binding.bindings_in.Given as goal

abbrev pub invariant-loop-id : goal.invariant-loop-id
invariant-loop-id l = AreAmong l.bindings.items (take l.id-index l.id-items) l.entries l.dir
