use Rattle.ficus_machine.proofs.Gathered.{HasGiven}
use Rattle.ficus_machine.proofs.machine.Machine.gather.Given as goal

-- the pieces so far were given
abbrev pub invariant-loop-index : goal.invariant-loop-index
invariant-loop-index g l =
    HasGiven g.K.Keep g.D.Disk g.N.Disk g.M.Mailbox l.piece.head l.index l.fn.self l.self l.fn.disks.items
    l.disks.items l.fn.slots l.slots l.fn.mailbox l.mailbox
