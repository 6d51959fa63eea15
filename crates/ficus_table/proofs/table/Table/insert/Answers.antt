use Rattle.std.proofs.lemmas.Result.{on_ok_weaker}
use Rattle.ficus_ids.specs.RisingLaws.{put_adds}
use Rattle.ficus_table.proofs.table.Table.insert.Goals as goal

pub returns-clause-added : goal.returns-clause-added
returns-clause-added g c =
    on_ok_weaker c.put.result
    (λ puts. put_adds g.R.Row.id_of c.args.self.now.items _ (g.R.Row.seen c.args.row) c.requires puts) c.put.ensures.put
