use Rattle.ficus_ids.specs.RisingLaws.{none_at_place}
use Rattle.ficus_table.proofs.table.Table.get.Goals as goal

pub returns-in-Err-clause-found : goal.returns-in-Err-clause-found
returns-in-Err-clause-found g c =
    none_at_place g.R.Row.id_of c.args.self.now.items c.args.id _ c.in-Err.ensures.place
