use Rattle.std.specs.Prelude.{IsTrue, false}
use Rattle.ficus_formats.specs.Format.{number32, counted}
use Rattle.ficus_formats.specs.Unique.{unique-number32, unique-counted}
use Rattle.ficus_ids.specs.Rising.{IsRisingBy}
use Rattle.ficus_formats.proofs.Reading.{fails-unmet}
use Rattle.ficus_formats.proofs.Runs.{begins-counted}
use Rattle.ficus_formats.proofs.rising.read_rising.Goals as goal

pub returns-else-is_rising : goal.returns-else-is_rising
returns-else-is_rising g c =
    let format = g.S.Spelling.format c.args.spelling.now in
    fails-unmet (λ xs. (counted number32 format).fits xs × IsRisingBy g.S.RowSpelling.id_of xs) (counted number32 format)
    (λ xs fits. fits.0) c.in_ok-values.values _ _ _
    (unique-counted number32 format unique-number32 (g.S.Spelling.unique c.args.spelling.now))
    (begins-counted number32 format c.in_ok-count.count _ _ _ c.in_ok-values.values c.in_ok-count.ensures.reads c.in_ok-values.ensures)
    (λ fits. let no : IsTrue false = c.if-is_rising.ensures.1 (rw c.items.ensures fits.1) in cc)
