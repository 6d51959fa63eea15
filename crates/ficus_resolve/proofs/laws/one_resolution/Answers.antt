use Rattle.ficus_resolve.proofs.Outcomes.{one_resolution}
use Rattle.ficus_resolve.proofs.laws.one_resolution.Goals as goal

pub returns : goal.returns
returns c = λ kind contents others outcome other same. one_resolution contents others same kind outcome other
