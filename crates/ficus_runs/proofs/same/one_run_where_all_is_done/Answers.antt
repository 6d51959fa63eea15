use Rattle.ficus_runs.proofs.OneRun.{done_run_once}
use Rattle.ficus_runs.proofs.same.one_run_where_all_is_done.Goals as goal

pub returns : goal.returns
returns c = λ volume W after later commands outcomes other_outcomes answers others. done_run_once
