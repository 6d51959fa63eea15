use Rattle.std.proofs.lemmas.Result.{on_ok_weaker}
use Rattle.ficus_table.proofs.table.Table.put.Goals as goal

pub returns-clause-put : goal.returns-clause-put
returns-clause-put g c = on_ok_weaker c.hold.result (λ is. rw is c.in_ok-list.ensures.puts) c.hold.ensures.items
