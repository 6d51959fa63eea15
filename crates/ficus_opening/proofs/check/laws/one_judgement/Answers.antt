use Rattle.ficus_opening.proofs.check.Judging.{judged_once}
use Rattle.ficus_opening.proofs.check.laws.one_judgement.Goals as goal

pub returns : goal.returns
returns g c = λ r pair one other is also.
    judged_once g.K.Keep.kept g.D.Disk.seen r pair c.one_saved.ensures one other is also
