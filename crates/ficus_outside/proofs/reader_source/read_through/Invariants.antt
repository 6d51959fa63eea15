use Rattle.std.proofs.Common.{◌≡◌, length}
use Rattle.std.specs.Io.KnownBytes.{Keeps}
use Rattle.ficus_outside.proofs.reader_source.read_through.Given as goal

-- the buffer keeps its length, and an interrupted read consumes nothing
abbrev pub invariant-loop : goal.invariant-loop
invariant-loop g l = record {
  room : length l.into ≡ length l.initial.into;
  kept : Keeps (g.R.Read.remaining l.initial.reader) (g.R.Read.remaining l.reader);
}
