use Rattle.std.proofs.Common.{ℕ, ◌<◌, get_or}
use Rattle.ficus_file.specs.declared.version.Version.{Version}
use Rattle.ficus_merge_files.specs.Versions.{IsLatest, HasVector}
use Rattle.ficus_merge_files.proofs.versions.are_settled.Given as goal

abbrev pub invariant-loop-version : goal.invariant-loop-version
invariant-loop-version l = (k : ℕ) (d : Version) → k < l.version-index → IsLatest l.mine l.theirs (get_or l.theirs k d).vector → HasVector l.mine
    (get_or l.theirs k d).vector
