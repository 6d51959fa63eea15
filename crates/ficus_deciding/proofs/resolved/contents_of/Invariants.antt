use Rattle.std.proofs.Common.{◌≡◌, map, take}
use Rattle.ficus_deciding.proofs.resolved.contents_of.Given as goal

abbrev pub invariant-loop-version : goal.invariant-loop-version
invariant-loop-version l = l.contents.items ≡ map (λ version. version.bytes) (take l.version-index l.versions)
