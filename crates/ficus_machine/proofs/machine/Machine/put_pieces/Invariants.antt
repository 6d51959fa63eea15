use Rattle.ficus_machine.proofs.Putting.{PutsUpTo}
use Rattle.ficus_machine.proofs.machine.Machine.put_pieces.Given as goal

-- the pieces so far are put
abbrev pub invariant-loop-index : goal.invariant-loop-index
invariant-loop-index g l =
    PutsUpTo g.M.Mailbox l.fn.self l.serving l.pieces l.index l.self l.fn.mailbox l.mailbox
