use Rattle.std.proofs.Common.{◌≢◌, ℕ, ◌<◌, get_or}
use Rattle.ficus_file.specs.declared.version.Version.{Version}
use Rattle.ficus_merge_files.proofs.versions.has_vector.Given as goal

abbrev pub invariant-loop-version : goal.invariant-loop-version
invariant-loop-version l = (k : ℕ) (d : Version) → k < l.version-index → (get_or l.versions k d).vector ≢ l.vector
