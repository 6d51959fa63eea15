use Rattle.std.proofs.Common.{take}
use Rattle.ficus_merge_files.specs.Versions.{AreOrdered, GainsKept}
use Rattle.ficus_merge_files.proofs.versions.add_latest.Given as goal

abbrev pub invariant-loop-version : goal.invariant-loop-version
invariant-loop-version l = AreOrdered l.kept.items × GainsKept (take l.version-index l.from) l.mine l.theirs l.initial.kept.items l.kept.items
