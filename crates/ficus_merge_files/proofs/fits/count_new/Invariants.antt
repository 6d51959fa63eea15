use Rattle.std.proofs.Common.{List, ◌≤◌, take}
use Rattle.ficus_file.specs.declared.version.Version.{Version}
use Rattle.ficus_merge_files.specs.Versions.{AreOrdered, AreOfEither}
use Rattle.ficus_merge_files.specs.Counts.{HaveSameVectors, Grows}
use Rattle.ficus_merge_files.proofs.fits.count_new.Given as goal

abbrev pub invariant-loop-version : goal.invariant-loop-version
invariant-loop-version l = (l.count ≤ l.version-index) ×
    ((old : List Version) → AreOrdered old → AreOfEither old l.mine l.theirs →
    HaveSameVectors l.from l.mine l.theirs old l.but → Grows (take l.version-index l.from) l.mine l.theirs old l.count)
