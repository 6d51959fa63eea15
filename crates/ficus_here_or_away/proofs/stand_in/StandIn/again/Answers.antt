use Rattle.ficus_here_or_away.proofs.Asking.{reopens_then, unarms_then}
use Rattle.ficus_here_or_away.proofs.stand_in.StandIn.again.Goals as goal

pub returns-in-Ok-clause-reopens : goal.returns-in-Ok-clause-reopens
returns-in-Ok-clause-reopens c =
    reopens_then _ _ _ _ c.counted-answer.ensures.same _ c.size.ensures.stays.keeps c.again.ensures.reopens

pub returns-in-Ok-clause-by_fuse : goal.returns-in-Ok-clause-by_fuse
returns-in-Ok-clause-by_fuse c =
    unarms_then _ _ _ _ c.counted-answer.ensures.same _ c.size.ensures.stays.keeps (c.size.ensures.by_fuse tt).fuse
    (c.again.ensures.by_fuse tt)

pub returns-in_default-clause-reopens : goal.returns-in_default-clause-reopens
returns-in_default-clause-reopens c =
    reopens_then _ _ _ _ c.counted-answer.ensures.same _ c.size.ensures.stays.keeps c.again.ensures.reopens

pub returns-in_default-clause-by_fuse : goal.returns-in_default-clause-by_fuse
returns-in_default-clause-by_fuse c =
    unarms_then _ _ _ _ c.counted-answer.ensures.same _ c.size.ensures.stays.keeps (c.size.ensures.by_fuse tt).fuse
    (c.again.ensures.by_fuse tt)
