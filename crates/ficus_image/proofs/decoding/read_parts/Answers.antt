use Rattle.ficus_formats.proofs.Reading.{passed_all}
use Rattle.ficus_image.specs.Image.{image_parts}
use Rattle.ficus_image.proofs.Images.{at_front, at_tables}
use Rattle.ficus_image.proofs.decoding.read_parts.Goals as goal

pub returns-in_err-front-clause-reads : goal.returns-in_err-front-clause-reads
returns-in_err-front-clause-reads c =
    passed_all image_parts c.args.reader _ _ c.from_residual.ensures.1 (at_front c.args.reader _ c.in_err-front.ensures.reads)

pub returns-in_err-entries-clause-reads : goal.returns-in_err-entries-clause-reads
returns-in_err-entries-clause-reads c =
    passed_all image_parts c.args.reader _ _ c.from_residual-in_err-entries.ensures.1
    (at_tables c.args.reader _ c.in_ok-front.front _ c.in_ok-front.ensures.reads c.in_err-entries.ensures)
