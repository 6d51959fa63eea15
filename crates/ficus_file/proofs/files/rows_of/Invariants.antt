use Rattle.std.proofs.Common.{◌≡◌}
use Rattle.ficus_file.proofs.files.rows_of.Given as goal

abbrev pub invariant-loop-file : goal.invariant-loop-file
invariant-loop-file l = l.rows.items ≡ l.yielded
