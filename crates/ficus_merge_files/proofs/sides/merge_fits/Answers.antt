use Rattle.std.proofs.lemmas.Bool.{both_ways}
use Rattle.ficus_file.proofs.Changed.{contains_at}
use Rattle.ficus_merge_files.proofs.FitSoFar.{fits_more}
use Rattle.ficus_merge_files.proofs.sides.merge_fits.Goals as goal

pub fits_among-requires : goal.fits_among-requires
fits_among-requires c =
    c.len-index-end.ensures.files.each c.at-file.result.now
    (contains_at c.args.theirs.now c.loop-index.index c.at-file.result.now c.at-file.ensures)

pub returns-then-not-fits_among : goal.returns-then-not-fits_among
returns-then-not-fits_among c = (
  λ is. absurd cc,
  λ fit. absurd (both_ways c.fits_among.result c.if-not-fits_among.true (c.fits_among.ensures.1
      (record {
        each = λ file inside same. fit.each file c.at-file.result.now inside
            (contains_at c.args.theirs.now c.loop-index.index c.at-file.result.now c.at-file.ensures) same;
      }))),
)

pub loop-index-preserved : goal.loop-index-preserved
loop-index-preserved c =
    fits_more c.args.mine.now c.args.theirs.now c.loop-index.index c.at-file.result.now c.at-file.ensures
    c.loop-index.invariant (c.fits_among.ensures.0 c.if-not-fits_among.false).each
