use Rattle.std.proofs.Common.{subst}
use Rattle.std.specs.Prelude.{IsTrue, false, refl}
use Rattle.ficus_formats.specs.Format.{Begins, Fails}
use Rattle.ficus_formats.proofs.Reading.{passed}
use Rattle.ficus_codec.specs.Formats.{files, tables}
use Rattle.ficus_codec.proofs.TableFormats.{at_entries, at_files, tables_begin, objects_miss}
use Rattle.ficus_codec.proofs.tables.read_beside.Goals as goal

pub returns-in_err-entries : goal.returns-in_err-entries
returns-in_err-entries c =
    passed (tables c.args.members) _ _ _ _ c.from_residual.ensures.1
    (at_entries c.args.members c.count.ensures.valid _ _ (rw c.of-of_entries.ensures at c.in_err-entries.ensures))

pub returns-in_err-files : goal.returns-in_err-files
returns-in_err-files c =
    let miss = subst (λ members. Fails (files members) c.read_rising.new.reader c.in_err-files.field-0.0)
    c.of-of_files.ensures c.in_err-files.ensures in
    passed (tables c.args.members) _ _ _ _ c.from_residual-in_err-files.ensures.1
    (at_files c.args.members c.count.ensures.valid _ _ _ (rw c.of-of_entries.ensures at c.in_ok-entries.ensures) _ miss)

pub returns-then-have_objects : goal.returns-then-have_objects
returns-then-have_objects c =
    let begin = subst
    (λ members. Begins (files members) c.read_rising.new.reader c.in_ok-files.files c.read_rising-2.new.reader)
    c.of-of_files.ensures c.in_ok-files.ensures in
    tables_begin c.args.members c.count.ensures.valid _ _ _ (rw c.of-of_entries.ensures at c.in_ok-entries.ensures) _ _
    begin (rw (c.items.ensures, c.items-2.ensures) at (c.if-have_objects.ensures.0 refl))

pub returns-else-have_objects : goal.returns-else-have_objects
returns-else-have_objects c =
    let begin = subst
    (λ members. Begins (files members) c.read_rising.new.reader c.in_ok-files.files c.read_rising-2.new.reader)
    c.of-of_files.ensures c.in_ok-files.ensures in
    objects_miss c.args.members c.count.ensures.valid _ _ _ (rw c.of-of_entries.ensures at c.in_ok-entries.ensures) _ _
    begin _
    (λ objects. let no : IsTrue false = c.if-have_objects.ensures.1 (rw (c.items.ensures, c.items-2.ensures) objects) in cc)
