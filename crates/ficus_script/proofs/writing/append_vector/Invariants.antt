use Rattle.std.proofs.Common.{◌≡◌, ◌++◌}
use Rattle.ficus_script.proofs.VectorTexts.{more_counts}
use Rattle.ficus_script.proofs.writing.append_vector.Given as goal

-- the first counts, of this many replicas, are written
abbrev pub invariant-loop-index : goal.invariant-loop-index
invariant-loop-index l = l.text.items ≡ l.initial.text.items ++ more_counts l.index l.vector
