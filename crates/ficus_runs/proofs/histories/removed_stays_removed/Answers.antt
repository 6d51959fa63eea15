use Rattle.ficus_runs.proofs.Extending.{run_never_returns}
use Rattle.ficus_runs.proofs.histories.removed_stays_removed.Goals as goal

pub returns : goal.returns
returns c = λ volume W after commands outcomes answers replica entry run removed live.
    run_never_returns run replica entry removed live
