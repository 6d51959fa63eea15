use Rattle.std.proofs.Common.{rules, subst, Err}
use Rattle.ficus_formats.specs.Format.{ReadsAll, Spells}
use Rattle.ficus_formats.proofs.Reading.{passed_all}
use Rattle.ficus_codec.specs.Formats.{tables}
use Rattle.ficus_image.proofs.decoding.read_all_tables.Goals as goal

pub returns-in_err-entries : goal.returns-in_err-entries
returns-in_err-entries c =
    passed_all (tables c.args.members) c.args.reader _ _ c.from_residual.ensures.1
    (subst (λ members. ReadsAll (tables members) c.args.reader (Err c.in_err-entries.field-0.0)) c.none.ensures
    c.in_err-entries.ensures)

pub tables_of-requires : goal.tables_of-requires
tables_of-requires c = record { entries = search rules; files = search rules }

pub returns : goal.returns
returns c =
    rw (c.in_ok-tables.ensures, c.items.ensures, c.items-2.ensures)
    (subst (λ members. Spells (tables members) (c.in_ok-entries.entries, c.in_ok-entries.files) c.args.reader)
    c.none.ensures c.in_ok-entries.ensures)
