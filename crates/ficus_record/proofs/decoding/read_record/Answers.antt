use Rattle.std.proofs.Common.{◌≡◌, false}
use Rattle.std.specs.Prelude.{◌==◌}
use Rattle.ficus_formats.proofs.Reading.{more_left, none_spelled, passed_all}
use Rattle.ficus_record.specs.Record.{record_format}
use Rattle.ficus_record.proofs.Reading.{begins_record, fails_fields}
use Rattle.ficus_record.proofs.Unique.{unique-record}
use Rattle.ficus_record.proofs.decoding.read_record.Goals as goal

pub returns-in_err-noted : goal.returns-in_err-noted
returns-in_err-noted c =
    passed_all (record_format c.args.members) c.args.reader _ _ c.from_residual-in_err-noted.ensures.1
    (none_spelled (record_format c.args.members) c.args.reader _
    (fails_fields c.args.members c.in_ok-tag.tag c.args.reader c.byte.new.self _ c.in_ok-tag.ensures.reads
    c.in_err-noted.ensures))

pub returns-else-is_empty : goal.returns-else-is_empty
returns-else-is_empty c = λ unspelled.
    more_left (record_format c.args.members) c.args.reader c.in_ok-noted.noted _
    (unique-record c.args.members c.count-count.ensures.valid)
    (begins_record c.args.members c.in_ok-tag.tag c.args.reader c.byte.new.self _ _ c.in_ok-tag.ensures.reads
    c.in_ok-noted.ensures)
    (λ none. let no : false ≡ (0 == 0) = rw none at c.if-is_empty.ensures in cc)
