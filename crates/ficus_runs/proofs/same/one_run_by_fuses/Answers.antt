use Rattle.ficus_runs.proofs.OneRun.{fused_run_once}
use Rattle.ficus_runs.proofs.same.one_run_by_fuses.Goals as goal

pub returns : goal.returns
returns c = λ volume keeping F W after later commands outcomes other_outcomes answers others. fused_run_once keeping F
