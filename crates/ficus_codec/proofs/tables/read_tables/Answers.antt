use Rattle.std.proofs.Common.{rules, subst}
use Rattle.ficus_formats.specs.Format.{Begins, Fails}
use Rattle.ficus_formats.proofs.Reading.{passed}
use Rattle.ficus_codec.specs.Formats.{tables}
use Rattle.ficus_codec.proofs.tables.read_tables.Goals as goal

pub returns-in_err-entries : goal.returns-in_err-entries
returns-in_err-entries c =
    passed (tables c.args.members) _ _ _ _ c.from_residual.ensures.1
    (subst (λ members. Fails (tables members) c.args.reader.now c.in_err-entries.field-0.0) c.none.ensures
    c.in_err-entries.ensures)

pub tables_of-requires : goal.tables_of-requires
tables_of-requires c = record { entries = search rules; files = search rules }

pub returns : goal.returns
returns c =
    rw (c.in_ok-tables.ensures, c.items.ensures, c.items-2.ensures)
    (subst (λ members. Begins (tables members) c.args.reader.now (c.in_ok-entries.entries, c.in_ok-entries.files)
    c.read_rows-2.new.reader) c.none.ensures c.in_ok-entries.ensures)
