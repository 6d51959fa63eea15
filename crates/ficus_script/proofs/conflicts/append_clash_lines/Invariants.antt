use Rattle.std.proofs.Common.{◌≡◌, ◌++◌, take}
use Rattle.std.specs.List.{flat_map}
use Rattle.ficus_script.specs.Answer.{clash_line}
use Rattle.ficus_script.proofs.conflicts.append_clash_lines.Given as goal

abbrev pub invariant-loop-clash : goal.invariant-loop-clash
invariant-loop-clash l = l.text.items ≡ l.initial.text.items ++ flat_map clash_line (take l.clash-index l.clashes)
