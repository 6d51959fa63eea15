use Rattle.std.proofs.Common.{ℕ, ◌<◌, get_or}
use Rattle.ficus_file.specs.declared.version.Version.{Version}
use Rattle.ficus_merge_files.specs.Versions.{IsLatest}
use Rattle.ficus_merge_files.proofs.versions.are_latest.Given as goal

abbrev pub invariant-loop-version : goal.invariant-loop-version
invariant-loop-version l = (k : ℕ) (d : Version) → k < l.version-index → IsLatest l.mine l.theirs (get_or l.mine k d).vector
