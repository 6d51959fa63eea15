use Rattle.std.proofs.Common.{◌≡◌, ◌≤◌, length}
use Rattle.ficus_opening.specs.Opening.{Steady}
use Rattle.ficus_top.specs.Modes.Check.{StaysUnwritten}
use Rattle.ficus_top.proofs.Judging.{AreJudgedSo}
use Rattle.ficus_top.proofs.checking.judge_all.Given as goal

abbrev pub invariant-loop-before : goal.invariant-loop-before
invariant-loop-before g l = record {
  places : length l.judgements ≡ 8;
  judged : AreJudgedSo g.D.Disk.tells g.D.Disk.seen l.fn.disks.items l.judgements l.before;
  unwritten : StaysUnwritten g.D.Disk l.fn.disks.items l.disks.items;
  faults : Steady g.D.Disk.faults l.fn.disks.items l.disks.items;
}
