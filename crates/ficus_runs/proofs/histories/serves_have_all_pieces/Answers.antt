use Rattle.ficus_runs.proofs.Runs.{run_of_run}
use Rattle.ficus_runs.proofs.Starts.{start_lawful, start_of_run}
use Rattle.ficus_runs.proofs.histories.serves_have_all_pieces.Goals as goal

pub returns : goal.returns
returns c = λ volume earlier total fused commands outcomes answers W lawful run.
    (run_of_run run (start_lawful volume earlier lawful) (start_of_run volume earlier volume.members total fused)).serves
