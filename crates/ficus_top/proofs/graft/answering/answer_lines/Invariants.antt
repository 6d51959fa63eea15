use Rattle.std.proofs.Common.{◌≡◌, ◌+◌, ◌*◌, length, take}
use Rattle.ficus_loop.specs.Serving.{serving_limit}
use Rattle.ficus_world.specs.World.{message_limit, most_unforeseen}
use Rattle.ficus_top.specs.Graft.Runs.{AnswersLines, AreHeld, ForeseeFew}
use Rattle.ficus_top.specs.Graft.Serving.{Told}
use Rattle.ficus_top.proofs.graft.answering.answer_lines.Given as goal

-- the lines so far were answered, and the disks are still those of the worlds; few enough events are foreseen; no fault of
-- the sink was counted
abbrev pub invariant-loop-line : goal.invariant-loop-line
invariant-loop-line g l = record {
  served : AnswersLines g.S.Sink.tells g.L.Link.tells (Told g.L.Link.tells g.D.Disk.tells l.lines) g.K.Keep g.D.Disk
      (take l.line-index l.lines) l.fn.volumes l.volumes l.fn.disks.items l.disks.items (g.S.Sink.written l.fn.output)
      (g.S.Sink.written l.output);
  held : AreHeld g.K.Keep g.D.Disk l.volumes l.disks.items;
  room : ForeseeFew (serving_limit + message_limit + most_unforeseen * l.line-index) l.volumes;
  count : length l.volumes ≡ length l.fn.volumes;
  steady : g.S.Sink.faults l.output ≡ g.S.Sink.faults l.fn.output;
}
