use Rattle.std.proofs.Common.{refl}
use Rattle.ficus_merge_files.proofs.Counted.{both_counted}
use Rattle.ficus_merge_files.proofs.fits.count_merged.Goals as goal

pub returns : goal.returns
returns c =
    both_counted c.args.mine.now c.args.theirs.now _ c.count_new.result c.count_new-2.result refl c.count_new.ensures.grows c.count_new-2.ensures.grows
