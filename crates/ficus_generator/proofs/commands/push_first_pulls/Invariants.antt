use Rattle.std.proofs.Common.{◌≡◌, ◌-◌, ◌++◌, map}
use Rattle.std.specs.List.{range_with_len}
use Rattle.ficus_script.specs.declared.command.Command.TheVariants.{Pull}
use Rattle.ficus_generator.proofs.commands.push_first_pulls.Given as goal

abbrev pub invariant-loop-member : goal.invariant-loop-member
invariant-loop-member l =
    l.commands.items ≡ l.initial.commands.items ++ map (λ member. Pull member 1) (range_with_len 2 (l.member - 2))
