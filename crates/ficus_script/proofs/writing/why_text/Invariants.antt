use Rattle.std.proofs.Common.{◌≡◌, ◌++◌, length, take}
use Rattle.std.specs.List.{flat_map}
use Rattle.ficus_script.specs.Answer.{count_line}
use Rattle.ficus_script.proofs.writing.why_text.Given as goal

abbrev pub invariant-loop-line : goal.invariant-loop-line
invariant-loop-line l =
    l.text.items ≡ count_line (length l.lines) ++ flat_map (λ line. line) (take l.line-index l.lines)
