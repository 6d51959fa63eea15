use Rattle.std.proofs.Common.{◌≡◌}
use Rattle.ficus_wire.proofs.Holding.{front}
use Rattle.ficus_wire.proofs.parts.Parts.whole.Given as goal

abbrev pub invariant-loop-index : goal.invariant-loop-index
invariant-loop-index l = l.whole.items ≡ front l.self l.index
