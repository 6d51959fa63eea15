use Rattle.ficus_runs.proofs.pieces.Serving.{serve_may_come}
use Rattle.ficus_runs.proofs.pieces.Taken.{one_count}
use Rattle.ficus_runs.proofs.pieces.taking.serves_may_come.Goals as goal

pub returns-clause-agree : goal.returns-clause-agree
returns-clause-agree c = λ volume H one other server ask state pieces again lawful at at_too. one_count lawful at at_too

pub returns-clause-next : goal.returns-clause-next
returns-clause-next c = λ spelling volume H server asker ask saved lawful asked is some all.
    serve_may_come spelling volume H server asker ask saved lawful asked is some all
