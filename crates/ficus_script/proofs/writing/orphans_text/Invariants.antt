use Rattle.std.proofs.Common.{◌≡◌, ◌++◌, length, take}
use Rattle.std.specs.List.{flat_map}
use Rattle.ficus_script.specs.Answer.{count_line, orphan_line}
use Rattle.ficus_script.proofs.writing.orphans_text.Given as goal

abbrev pub invariant-loop-orphan : goal.invariant-loop-orphan
invariant-loop-orphan l =
    l.text.items ≡ count_line (length l.orphans) ++ flat_map orphan_line (take l.orphan-index l.orphans)
