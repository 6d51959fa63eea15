use Rattle.std.proofs.Common.{ℕ, ◌<◌, ◌≤◌, get_or}
use Rattle.ficus_vectors.proofs.vector.Vector.covers.Given as goal

abbrev pub invariant-loop-i : goal.invariant-loop-i
invariant-loop-i l = (k : ℕ) → k < l.i → get_or l.other-inside.counts k 0 ≤ get_or l.self-inside.counts k 0
