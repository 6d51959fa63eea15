use Rattle.std.proofs.Common.{◌≡◌, take}
use Rattle.ficus_vectors.specs.Vector.{join}
use Rattle.ficus_file.specs.Version.{join_all}
use Rattle.ficus_file.proofs.versions.joined.Given as goal

abbrev pub invariant-loop-version : goal.invariant-loop-version
invariant-loop-version l = l.vector ≡ join l.initial.vector (join_all (take l.version-index l.versions))
