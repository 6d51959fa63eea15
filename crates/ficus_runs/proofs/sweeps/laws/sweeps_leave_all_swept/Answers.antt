use Rattle.ficus_runs.proofs.sweeps.Whole.{all_swept}
use Rattle.ficus_runs.proofs.sweeps.laws.sweeps_leave_all_swept.Goals as goal

pub returns : goal.returns
returns c = all_swept
