use Rattle.ficus_standing_laws.proofs.CutOff.{lies_in_detached}
use Rattle.ficus_standing_laws.proofs.detached.detached_tables_hang_together.Goals as goal

pub returns : goal.returns
returns c = λ saved dir lie detached. lies_in_detached saved dir lie detached
