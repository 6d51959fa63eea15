use Rattle.ficus_top.proofs.Stopping.{ends_unarmed, front_unarmed}
use Rattle.ficus_top.proofs.laws.only_stops_arm_disks.Goals as goal

pub returns-clause-answers : goal.returns-clause-answers
returns-clause-answers g c = λ volume earlier script old new disks after answers r was now is_was is_now none.
    ends_unarmed r was now is_was is_now none answers.ends

pub returns-clause-cut : goal.returns-clause-cut
returns-clause-cut g c = λ volume earlier script old new disks after answers r was now is_was is_now none.
    front_unarmed r was now is_was is_now none answers.ends

pub returns-clause-uncut : goal.returns-clause-uncut
returns-clause-uncut g c = λ volume earlier script old new disks after answers r was now is_was is_now none.
    front_unarmed r was now is_was is_now none answers.ends
