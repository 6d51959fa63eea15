use Rattle.ficus_formats.proofs.Reading.{passed}
use Rattle.ficus_codec.specs.Formats.{file}
use Rattle.ficus_codec.proofs.file_format.SharedFileTableRow.read_row.Goals as goal

pub returns-in_err-file : goal.returns-in_err-file
returns-in_err-file c =
    passed (file c.args.members) _ _ _ _ c.from_residual.ensures.1 c.in_err-file.ensures
