use Rattle.std.proofs.Common.{◌≡◌, ◌++◌, take}
use Rattle.ficus_path.specs.Spelling.{name_text}
use Rattle.ficus_path.proofs.name.append_name.Given as goal

-- the bytes so far are written
abbrev pub invariant-loop-byte : goal.invariant-loop-byte
invariant-loop-byte l = l.out.items ≡ l.initial.out.items ++ name_text (take l.byte-index l.byte-items)
