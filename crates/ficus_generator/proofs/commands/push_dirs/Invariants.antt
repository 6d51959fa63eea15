use Rattle.std.proofs.Common.{◌≡◌, ◌++◌, map}
use Rattle.std.specs.List.{range_with_len}
use Rattle.ficus_generator.specs.Commands.{mkdir_command}
use Rattle.ficus_generator.proofs.commands.push_dirs.Given as goal

abbrev pub invariant-loop-dir : goal.invariant-loop-dir
invariant-loop-dir l =
    l.commands.items ≡ l.initial.commands.items ++ map (mkdir_command 1) (range_with_len 0 l.dir)
