use Rattle.std.proofs.Common.{ap, ◌∙◌}
use Rattle.ficus_top.specs.declared.status.Status.{Status}
use Rattle.ficus_top.proofs.Judging.{stored_unfailed}
use Rattle.ficus_top.proofs.checking.check.Goals as goal

pub returns-in-Err-clause-unfailed : goal.returns-in-Err-clause-unfailed
returns-in-Err-clause-unfailed g c = λ other.
    stored_unfailed g.D.Disk.faults c.args.disks.now.items c.judge_all.new.disks.items c.in-Err.fault
    c.in-Err.ensures.faults (λ six. other (ap (λ (s : Status). s.code) c.of-in-Err.ensures ∙ six))
