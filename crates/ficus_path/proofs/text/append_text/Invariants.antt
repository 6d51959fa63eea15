use Rattle.std.proofs.Common.{◌≡◌, ◌++◌, take}
use Rattle.std.specs.List.{flat_map}
use Rattle.ficus_path.specs.Text.{quoted_byte_text}
use Rattle.ficus_path.proofs.text.append_text.Given as goal

-- the quotation mark and the bytes so far are written
abbrev pub invariant-loop-byte : goal.invariant-loop-byte
invariant-loop-byte l = l.out.items ≡ l.initial.out.items ++ flat_map quoted_byte_text (take l.byte-index l.text)
