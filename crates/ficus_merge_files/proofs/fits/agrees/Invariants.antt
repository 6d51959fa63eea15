use Rattle.std.proofs.Common.{◌≡◌, ℕ, ◌<◌, get_or}
use Rattle.ficus_file.specs.declared.version.Version.{Version}
use Rattle.ficus_merge_files.proofs.fits.agrees.Given as goal

abbrev pub invariant-loop-version : goal.invariant-loop-version
invariant-loop-version l = (k : ℕ) (d : Version) → k < l.version-index →
    (get_or l.versions k d).vector ≡ l.other.vector → (get_or l.versions k d).bytes ≡ l.other.bytes
