use Rattle.std.proofs.Common.{◌≡◌, take}
use Rattle.ficus_mailbox.proofs.letter.Letter.new.Given as goal

-- what is held so far is the front of the bytes
abbrev pub invariant-loop-byte : goal.invariant-loop-byte
invariant-loop-byte l = l.held.items ≡ take l.byte-index l.bytes
