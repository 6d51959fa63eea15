use Rattle.ficus_laws.proofs.OneMore.{within_more}
use Rattle.ficus_laws.proofs.Shown.{removed_within}
use Rattle.ficus_laws.proofs.live.removed_never_returns.Goals as goal

pub returns : goal.returns
returns c = λ H later replica entry removed live. live.not_removed (removed_within (within_more H later replica) removed)
