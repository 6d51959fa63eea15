use Rattle.ficus_formats.proofs.Reading.{passed}
use Rattle.ficus_codec.specs.Formats.{entry}
use Rattle.ficus_codec.proofs.entry_format.SharedEntryTableRow.read_row.Goals as goal

pub returns-in_err-entry : goal.returns-in_err-entry
returns-in_err-entry c =
    passed (entry c.args.members) _ _ _ _ c.from_residual.ensures.1 c.in_err-entry.ensures.reads
