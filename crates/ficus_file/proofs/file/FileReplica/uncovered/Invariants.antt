use Rattle.std.proofs.Common.{ℕ, ◌<◌, get_or}
use Rattle.ficus_vectors.specs.Vector.{Covers}
use Rattle.ficus_file.specs.declared.version.Version.{Version}
use Rattle.ficus_file.proofs.file.FileReplica.uncovered.Given as goal

abbrev pub invariant-loop-version : goal.invariant-loop-version
invariant-loop-version l = (k : ℕ) (d : Version) → k < l.version-index → Covers l.self.covered (get_or l.version-items k d).vector
