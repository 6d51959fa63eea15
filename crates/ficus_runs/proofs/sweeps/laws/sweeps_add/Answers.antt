use Rattle.ficus_runs.proofs.sweeps.Whole.{all_added}
use Rattle.ficus_runs.proofs.sweeps.laws.sweeps_add.Goals as goal

pub returns : goal.returns
returns c = all_added
