use Rattle.ficus_formats.specs.Format.{◌then◌, id}
use Rattle.ficus_formats.specs.Unique.{unique-id}
use Rattle.ficus_formats.proofs.Reading.{fails-second, passed}
use Rattle.ficus_codec.specs.Formats.{name}
use Rattle.ficus_codec.specs.FormatsUnique.{unique-name}
use Rattle.ficus_record.specs.Record.{fixed_text, symlinking}
use Rattle.ficus_record.proofs.fields.read_symlinking.Goals as goal

pub returns-in_err-read_fixed_text : goal.returns-in_err-read_fixed_text
returns-in_err-read_fixed_text c =
    passed symlinking _ _ _ _ c.from_residual-in_err-read_fixed_text.ensures.1
    (fails-second id (name then fixed_text) _ _ _ _ unique-id c.in_ok-id.ensures.reads
    (fails-second name fixed_text _ _ _ _ unique-name c.in_ok-read_name.ensures.reads c.in_err-read_fixed_text.ensures))
