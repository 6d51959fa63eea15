use Rattle.ficus_codec.proofs.TableFormats.{tables_narrow}
use Rattle.ficus_codec.proofs.tables.put_rows.Goals as goal

pub put_counted-requires : goal.put_counted-requires
put_counted-requires c =
    rw c.none.ensures
    (tables_narrow c.args.members c.reserve.ensures.valid (c.args.entries.now, c.args.files.now) c.requires).0.0

pub put_counted-requires-2 : goal.put_counted-requires-2
put_counted-requires-2 c =
    rw c.none-2.ensures
    (tables_narrow c.args.members c.reserve.ensures.valid (c.args.entries.now, c.args.files.now) c.requires).1.0
