use Rattle.std.proofs.Common.{◌≡◌, ◌-◌, ◌++◌}
use Rattle.ficus_script.proofs.SetTexts.{digits_of_first}
use Rattle.ficus_script.proofs.marks.append_digits.Given as goal

abbrev pub invariant-loop-replica : goal.invariant-loop-replica
invariant-loop-replica l = l.text.items ≡ l.initial.text.items ++ digits_of_first l.set (l.replica - 1)
