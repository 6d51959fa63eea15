use Rattle.ficus_runs.proofs.sweeps.Through.{all_through}
use Rattle.ficus_runs.proofs.sweeps.laws.sweeps_meet_no_refusal.Goals as goal

pub returns : goal.returns
returns c = all_through
