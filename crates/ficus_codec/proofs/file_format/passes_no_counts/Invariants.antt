use Rattle.std.proofs.Common.{◌≡◌, ◌*◌, ◌++◌}
use Rattle.std.specs.Prelude.{replicate}
use Rattle.ficus_codec.proofs.file_format.passes_no_counts.Given as goal

abbrev pub invariant-loop : goal.invariant-loop
invariant-loop l = l.fn.reader ≡ replicate (8 * l.counter) 0 ++ l.reader
