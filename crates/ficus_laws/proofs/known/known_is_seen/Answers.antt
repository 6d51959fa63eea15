use Rattle.ficus_laws.proofs.Knowledge.{knows_seen, seen_knows}
use Rattle.ficus_laws.proofs.known.known_is_seen.Goals as goal

pub returns : goal.returns
returns c = λ H at replica seen own. (seen_knows own, knows_seen own)
