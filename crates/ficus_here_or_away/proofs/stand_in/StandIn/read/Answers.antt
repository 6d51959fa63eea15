use Rattle.ficus_here_or_away.proofs.Asking.{looks_of}
use Rattle.ficus_here_or_away.proofs.stand_in.StandIn.read.Goals as goal

pub returns-clause-by_fuse : goal.returns-clause-by_fuse
returns-clause-by_fuse c = λ _. looks_of _ _ _ _ c.counted.ensures.same (c.read.ensures.by_fuse tt)
