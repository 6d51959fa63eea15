use Rattle.std.proofs.Common.{◌≡◌, ◌++◌, take}
use Rattle.std.specs.List.{flat_map}
use Rattle.ficus_formats.proofs.spelling.put_run.Given as goal

abbrev pub invariant-loop-value : goal.invariant-loop-value
invariant-loop-value g l =
    l.out.items ≡ l.fn.out.items ++ flat_map (g.S.Spelling.format l.spelling).spell (take l.value-index l.values)
