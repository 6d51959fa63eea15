use Rattle.std.proofs.Common.{◌≡◌, false}
use Rattle.std.specs.Prelude.{◌==◌}
use Rattle.ficus_formats.proofs.Reading.{passed_all, none_spelled, more_left}
use Rattle.ficus_codec.specs.Formats.{tables}
use Rattle.ficus_codec.proofs.TableFormats.{unique-tables}
use Rattle.ficus_codec.proofs.tables.read_all_rows.Goals as goal

pub returns-in_err-tables : goal.returns-in_err-tables
returns-in_err-tables c =
    passed_all (tables c.args.known.now) c.args.reader _ _ c.from_residual.ensures.1
    (none_spelled (tables c.args.known.now) c.args.reader _ c.in_err-tables.ensures)

pub returns-else-is_empty : goal.returns-else-is_empty
returns-else-is_empty c = λ unspelled.
    more_left (tables c.args.known.now) c.args.reader c.in_ok-tables.tables _
    (unique-tables c.args.known.now (rw c.members.ensures at c.count.ensures.valid)) c.in_ok-tables.ensures
    (λ none. let no : false ≡ (0 == 0) = rw none at c.if-is_empty.ensures in cc)
