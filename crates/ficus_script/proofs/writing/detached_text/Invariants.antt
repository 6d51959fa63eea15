use Rattle.std.proofs.Common.{◌≡◌, ◌++◌, length, take}
use Rattle.std.specs.List.{flat_map}
use Rattle.ficus_script.specs.Answer.{count_line, id_line}
use Rattle.ficus_script.proofs.writing.detached_text.Given as goal

abbrev pub invariant-loop-dir : goal.invariant-loop-dir
invariant-loop-dir l =
    l.text.items ≡ count_line (length l.dirs) ++ flat_map id_line (take l.dir-index l.dirs)
