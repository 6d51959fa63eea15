use Rattle.std.proofs.Common.{take}
use Rattle.ficus_resolve.proofs.Numerals.{IsGreatestSeen}
use Rattle.ficus_resolve.proofs.max.greatest_number.Given as goal

-- the number is the greatest of the contents so far
abbrev pub invariant-loop-content : goal.invariant-loop-content
invariant-loop-content l = IsGreatestSeen (take l.content-index l.contents) l.greatest
