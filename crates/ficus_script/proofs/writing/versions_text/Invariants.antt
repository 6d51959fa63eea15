use Rattle.std.proofs.Common.{◌≡◌, ◌++◌, length, take}
use Rattle.std.specs.List.{flat_map}
use Rattle.ficus_script.specs.Answer.{count_line, version_line}
use Rattle.ficus_script.proofs.writing.versions_text.Given as goal

abbrev pub invariant-loop-version : goal.invariant-loop-version
invariant-loop-version l =
    l.text.items ≡ count_line (length l.list) ++ flat_map (version_line l.members) (take l.version-index l.list)
