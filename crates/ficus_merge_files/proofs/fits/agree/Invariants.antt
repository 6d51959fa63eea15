use Rattle.std.proofs.Common.{◌≡◌, ℕ, ◌<◌, get_or}
use Rattle.std.specs.Prelude.{Contains}
use Rattle.ficus_file.specs.declared.version.Version.{Version}
use Rattle.ficus_merge_files.proofs.fits.agree.Given as goal

abbrev pub invariant-loop-other : goal.invariant-loop-other
invariant-loop-other l = (k : ℕ) (d : Version) → k < l.other-index → (version : Version) → Contains l.mine version →
    version.vector ≡ (get_or l.theirs k d).vector → version.bytes ≡ (get_or l.theirs k d).bytes
