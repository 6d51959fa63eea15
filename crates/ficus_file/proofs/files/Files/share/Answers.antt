use Rattle.std.proofs.lemmas.Result.{IfOk-weaker}
use Rattle.ficus_ids.specs.RisingLaws.{none_at_place}
use Rattle.ficus_file.specs.Files.{id_of}
use Rattle.ficus_file.proofs.Changed.{contains_at, found_id}
use Rattle.ficus_file.proofs.files.Files.share.Goals as goal

pub unreachable-requires : goal.unreachable-requires
unreachable-requires c =
    none_at_place id_of c.self.inside.table.items c.args.id _ c.in_default.ensures.place
    (rw (← c.self.view_is) at c.requires.held)

pub returns-clause-found : goal.returns-clause-found
returns-clause-found c =
    let files = c.self.inside.table.items in
    rw (← c.self.view_is)
    (IfOk-weaker c.row.result _ _ (λ file at. (
      contains_at files c.in-Ok.index file at,
      found_id files c.args.id c.in-Ok.index file c.in-Ok.ensures.found at,
    )) c.row.ensures)
