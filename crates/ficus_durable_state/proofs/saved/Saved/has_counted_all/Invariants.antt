use Rattle.std.proofs.Common.{ℕ, ◌<◌, get_or}
use Rattle.ficus_vectors.specs.Vector.{count_of}
use Rattle.ficus_file.specs.declared.version.Version.{Version}
use Rattle.ficus_durable_state.proofs.saved.Saved.has_counted_all.Given as goal

abbrev pub invariant-loop-version : goal.invariant-loop-version
invariant-loop-version l = (k : ℕ) (d : Version) → k < l.version-index →
    count_of (get_or l.versions k d).vector l.self.me < l.self.next
