use Rattle.std.specs.Prelude.{All}
use Rattle.std.proofs.Common.{take}
use Rattle.ficus_top.specs.Graft.Crossing.{IsPlain}
use Rattle.ficus_top.proofs.graft.crossing.first_crossing.Given as goal

-- none of the parts so far leads to a volume
abbrev pub invariant-loop-place : goal.invariant-loop-place
invariant-loop-place l = All (IsPlain l.count) (take l.place l.parts)
