use Rattle.std.proofs.Common.{◌≡◌, ◌++◌, length, take}
use Rattle.std.specs.List.{flat_map}
use Rattle.ficus_script.specs.Answer.{count_line, mark_line}
use Rattle.ficus_script.proofs.writing.marks_text.Given as goal

abbrev pub invariant-loop-entry : goal.invariant-loop-entry
invariant-loop-entry l =
    l.text.items ≡ count_line (length l.entries) ++ flat_map mark_line (take l.entry-index l.entries)
