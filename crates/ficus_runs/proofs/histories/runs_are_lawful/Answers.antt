use Rattle.ficus_runs.proofs.Runs.{run_lawful}
use Rattle.ficus_runs.proofs.Starts.{start_lawful}
use Rattle.ficus_runs.proofs.histories.runs_are_lawful.Goals as goal

pub returns : goal.returns
returns c = λ volume earlier total fused commands outcomes answers W lawful run.
    run_lawful run (start_lawful volume earlier lawful)
