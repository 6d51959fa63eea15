use Rattle.std.proofs.Common.{◌≡◌, arith, rules}
use Rattle.std.specs.declared.cmp.Ordering.TheVariants.{Equal, Greater}
use Rattle.ficus_vectors.specs.Vector.{vector_cmp}
use Rattle.ficus_merge_files.proofs.Kept.{found_at, place_at}
use Rattle.ficus_merge_files.proofs.versions.place_of.Goals as goal

pub returns-in-Equal-clause-none : goal.returns-in-Equal-clause-none
returns-in-Equal-clause-none c =
    let equal : vector_cmp c.index-versions-index.result.vector c.args.vector ≡ Equal = search rules in
    found_at c.args.versions.now c.args.vector c.loop-index.index c.index-versions-index.result (omega arith) (search rules) equal

pub returns-in-Greater-clause-place : goal.returns-in-Greater-clause-place
returns-in-Greater-clause-place c =
    let after : vector_cmp c.index-versions-index.result.vector c.args.vector ≡ Greater = search rules in
    place_at c.args.versions.now c.args.vector c.loop-index.index c.index-versions-index.result (omega arith)
    (search rules) c.requires c.loop-index.invariant after
