use Rattle.std.proofs.Common.{◌≡◌, ◌++◌}
use Rattle.ficus_wire.specs.Parts.{with_part}
use Rattle.ficus_wire.proofs.Holding.{front}
use Rattle.ficus_wire.proofs.parts.Parts.put_whole_with.Given as goal

abbrev pub invariant-loop-at : goal.invariant-loop-at
invariant-loop-at l = l.out.items ≡ l.initial.out.items ++ front (with_part l.self l.index l.last) l.at
