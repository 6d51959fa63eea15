use Rattle.std.proofs.Common.{◌≡◌, take}
use Rattle.std.specs.Prelude.{filter}
use Rattle.ficus_deciding.specs.Entries.{is_removed}
use Rattle.ficus_deciding.proofs.removed.removed_of.Given as goal

abbrev pub invariant-loop-index : goal.invariant-loop-index
invariant-loop-index l = l.removed.items ≡ filter is_removed (take l.index l.entries)
