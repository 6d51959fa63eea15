use Rattle.std.specs.Io.KnownBytes.{Keeps}
use Rattle.ficus_outside.proofs.writer_sink.write_through.Given as goal

-- an interrupted write leaves what the writer holds
abbrev pub invariant-loop : goal.invariant-loop
invariant-loop g l = Keeps (g.W.Write.contents l.initial.writer) (g.W.Write.contents l.writer)
