use Rattle.ficus_runs.proofs.Up.{up_first, run_up}
use Rattle.ficus_runs.proofs.outside.all_is_done_where_nothing_failed.Goals as goal

pub returns : goal.returns
returns c = λ volume earlier members total fused commands outcomes answers W run none.
    (run_up run (up_first members) none).0
