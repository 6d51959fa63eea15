use Rattle.std.proofs.Common.{◌≡◌, ℕ, ◌<◌, ◌≤◌, max, length, get_or}
use Rattle.ficus_vectors.proofs.vector.Vector.join.Given as goal

abbrev pub invariant-loop-i : goal.invariant-loop-i
invariant-loop-i l = (length l.counts ≡ 8) ×
    ((k : ℕ) → k < l.i → get_or l.counts k 0 ≡ max (get_or l.initial.counts k 0) (get_or l.other-inside.counts k 0)) ×
    ((k : ℕ) → l.i ≤ k → get_or l.counts k 0 ≡ get_or l.initial.counts k 0)
