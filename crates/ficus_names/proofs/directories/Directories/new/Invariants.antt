use Rattle.ficus_names.proofs.ByDirectory.{AreBindings}
use Rattle.ficus_names.proofs.directories.Directories.new.Given as goal

abbrev pub invariant-loop-index : goal.invariant-loop-index
invariant-loop-index l = AreBindings l.directories l.entries l.index
