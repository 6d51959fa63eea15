use Rattle.std.proofs.Common.{◌≢◌, ℕ, ◌≤◌, ◌<◌, get_or}
use Rattle.ficus_index.specs.declared.place.Note.{Note}
use Rattle.ficus_index.proofs.index.Index.position.Given as goal

abbrev pub invariant-loop-position : goal.invariant-loop-position
invariant-loop-position l = (k : ℕ) (d : Note) → l.first ≤ k → k < l.position → get_or l.self-inside.notes k d ≢ l.note
