use Rattle.ficus_final_laws.proofs.Finishing.{final}
use Rattle.ficus_final_laws.proofs.done.finality.Goals as goal

pub returns : goal.returns
returns c = final
