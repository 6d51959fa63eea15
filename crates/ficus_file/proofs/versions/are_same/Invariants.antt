use Rattle.std.proofs.Common.{◌≡◌, take}
use Rattle.ficus_file.proofs.versions.are_same.Given as goal

abbrev pub invariant-loop-index : goal.invariant-loop-index
invariant-loop-index l = take l.index l.versions ≡ take l.index l.others
