use Rattle.std.proofs.Common.{List, inl, sym, subst, ℕ}
use Rattle.ficus_disk.specs.FailDisk.{MayLeave, may_leave_seen}
use Rattle.ficus_disk.proofs.Writing.{where_failed}
use Rattle.ficus_disk.proofs.fail_disk.FailDiskDisk.again.Goals as goal

pub returns-clause-reopens : goal.returns-clause-reopens
returns-clause-reopens c =
    let was = c.args.self.now in
    let keeps = c.sync.ensures.stays.keeps in
    record {
      left = λ _. subst (λ (l : List ℕ). MayLeave was l) (sym (keeps.seen tt)) (may_leave_seen was);
      durable = c.sync.ensures.durable;
      begun = λ _. where_failed c.sync.result (inl (keeps.seen tt));
      crash = keeps.crash;
      moments = keeps.moments;
      room = keeps.room;
    }
