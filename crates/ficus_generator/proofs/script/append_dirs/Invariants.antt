use Rattle.std.proofs.Common.{◌≡◌, ◌++◌, map}
use Rattle.std.specs.List.{range_with_len}
use Rattle.ficus_generator.specs.Script.{mkdir_line, text_of}
use Rattle.ficus_generator.proofs.script.append_dirs.Given as goal

abbrev pub invariant-loop-dir : goal.invariant-loop-dir
invariant-loop-dir l = l.script.items ≡ l.initial.script.items ++ text_of (map (mkdir_line 1) (range_with_len 0 l.dir))
