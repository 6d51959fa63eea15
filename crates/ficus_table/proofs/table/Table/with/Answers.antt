use Rattle.std.proofs.lemmas.Result.{IfOk-weaker}
use Rattle.ficus_table.proofs.table.Table.with.Goals as goal

pub returns-clause-puts : goal.returns-clause-puts
returns-clause-puts g c =
    IfOk-weaker c.putting.result _ _ (λ more puts. rw (← c.in_ok-list.ensures.same) puts) c.putting.ensures.puts
