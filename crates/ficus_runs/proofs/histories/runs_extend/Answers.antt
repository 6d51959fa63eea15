use Rattle.ficus_runs.proofs.Extending.{run_extends}
use Rattle.ficus_runs.proofs.histories.runs_extend.Goals as goal

pub returns : goal.returns
returns c = λ volume W after commands outcomes answers run.
    let more = run_extends run in
    (more.later, more.is)
