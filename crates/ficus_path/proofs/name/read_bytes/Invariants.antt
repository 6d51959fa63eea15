use Rattle.std.proofs.Common.{◌≡◌, ◌++◌, length}
use Rattle.ficus_path.specs.Spelling.{name_text}
use Rattle.ficus_path.proofs.name.read_bytes.Given as goal

-- the text is the spelling of the bytes so far, and the rest
abbrev pub invariant-loop-rest : goal.invariant-loop-rest
invariant-loop-rest l = l.text ≡ name_text l.bytes.items ++ l.rest

abbrev pub decreases-loop-rest : goal.decreases-loop-rest
decreases-loop-rest l = length l.rest
