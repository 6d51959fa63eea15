use Rattle.std.proofs.Common.{◌≡◌, ◌-◌, ◌++◌, map}
use Rattle.std.specs.List.{range_with_len}
use Rattle.ficus_generator.specs.Script.{pull_line, text_of}
use Rattle.ficus_generator.proofs.script.append_first_pulls.Given as goal

abbrev pub invariant-loop-member : goal.invariant-loop-member
invariant-loop-member l =
    l.script.items
    ≡ l.initial.script.items ++ text_of (map (λ member. pull_line member 1) (range_with_len 2 (l.member - 2)))
