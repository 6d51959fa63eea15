use Rattle.std.proofs.Common.{ℕ, ◌<◌}
use Rattle.ficus_mailbox.specs.MemMailbox.{IsOther}
use Rattle.ficus_mailbox.proofs.mem_mailbox.place_of.Given as goal

-- none of those before has this name
abbrev pub invariant-loop-place : goal.invariant-loop-place
invariant-loop-place l = (other : ℕ) → other < l.place → IsOther l.inbox l.name other
