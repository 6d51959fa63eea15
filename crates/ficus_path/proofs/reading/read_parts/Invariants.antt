use Rattle.std.proofs.Common.{length}
use Rattle.ficus_path.proofs.PathLaws.{IsReadTo}
use Rattle.ficus_path.proofs.reading.read_parts.Given as goal

abbrev pub invariant-loop-rest : goal.invariant-loop-rest
invariant-loop-rest l = IsReadTo l.text l.parts.items l.rest

abbrev pub decreases-loop-rest : goal.decreases-loop-rest
decreases-loop-rest l = length l.rest
