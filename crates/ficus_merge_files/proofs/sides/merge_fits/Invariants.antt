use Rattle.std.proofs.Common.{take}
use Rattle.ficus_merge_files.specs.Merge.{Fit}
use Rattle.ficus_merge_files.proofs.sides.merge_fits.Given as goal

abbrev pub invariant-loop-index : goal.invariant-loop-index
invariant-loop-index l = Fit l.mine (take l.index l.theirs)
