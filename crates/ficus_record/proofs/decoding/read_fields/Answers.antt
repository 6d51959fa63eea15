use Rattle.std.proofs.Common.{subst}
use Rattle.ficus_formats.specs.Format.{Fails}
use Rattle.ficus_formats.proofs.Reading.{passed}
use Rattle.ficus_codec.specs.Formats.{tables}
use Rattle.ficus_record.specs.Record.{record_under}
use Rattle.ficus_record.proofs.Reading.{fails_at}
use Rattle.ficus_record.proofs.Shapes.{accept_shaped}
use Rattle.ficus_record.proofs.decoding.read_fields.Goals as goal

pub returns-in_err-entries-in-11 : goal.returns-in_err-entries-in-11
returns-in_err-entries-in-11 c =
    let under = record_under c.args.members in
    passed (under c.args.tag) _ _ _ _ c.from_residual.ensures.1
    (fails_at under (tables c.args.members) 11 c.args.tag (accept_shaped c.args.members) c.in-11.is _ _
    (subst (λ members. Fails (tables members) c.args.reader.now c.in_err-entries-in-11.field-0.0) c.none.ensures
    c.in_err-entries-in-11.ensures))
