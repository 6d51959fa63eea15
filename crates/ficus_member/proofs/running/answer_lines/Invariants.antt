use Rattle.std.proofs.Common.{◌≡◌, take}
use Rattle.ficus_keeper.specs.Pairs.{PairSame}
use Rattle.ficus_member.specs.Answered.{AnswersAll}
use Rattle.ficus_member.proofs.running.answer_lines.Given as goal

-- the lines so far were answered, and neither a disk of the note nor the sink has failed
abbrev pub invariant-loop-line : goal.invariant-loop-line
invariant-loop-line g l = record {
  answers : AnswersAll g.P.Keep g.D.Disk g.N.Disk g.M.Mailbox g.K.Sink (take l.line-index l.lines) l.fn.machine l.machine
      l.fn.disks.items l.disks.items l.fn.slots l.slots l.fn.mailbox l.mailbox l.fn.output l.output;
  slots : PairSame g.N.Disk.faults l.fn.slots l.slots;
  sink : g.K.Sink.faults l.output ≡ g.K.Sink.faults l.fn.output;
}
