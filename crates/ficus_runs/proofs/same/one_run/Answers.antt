use Rattle.ficus_runs.proofs.OneRun.{run_once}
use Rattle.ficus_runs.proofs.same.one_run.Goals as goal

pub returns : goal.returns
returns c = λ volume W after later commands outcomes answers others. run_once
