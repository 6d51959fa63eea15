use Rattle.std.proofs.Common.{subst}
use Rattle.ficus_formats.specs.Format.{Reads}
use Rattle.ficus_codec.specs.Formats.{tables}
use Rattle.ficus_codec.proofs.tables.read_rows.Goals as goal

pub returns : goal.returns
returns c =
    subst (λ members. Reads (tables members) c.args.reader.now c.read_beside.result c.read_beside.new.reader)
    c.members.ensures c.read_beside.ensures
