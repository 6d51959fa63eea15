use Rattle.std.proofs.Common.{length}
use Rattle.ficus_cli.proofs.Written.{IsWritten}
use Rattle.ficus_cli.proofs.ending.write_bytes.Given as goal

-- a front of the bytes was written, and the rest is left
abbrev pub invariant-loop-rest : goal.invariant-loop-rest
invariant-loop-rest g l = IsWritten (g.W.Write.contents l.fn.writer) (g.W.Write.contents l.writer) l.bytes l.rest

abbrev pub decreases-loop-rest : goal.decreases-loop-rest
decreases-loop-rest g l = length l.rest
