use Rattle.std.proofs.Common.{sym, refl}
use Rattle.ficus_vectors.specs.VectorLaws.{join_covered}
use Rattle.ficus_merge_files.proofs.Current.{text_of_files, ordered_of}
use Rattle.ficus_merge_files.proofs.merge.adds_nothing.Goals as goal

pub returns-then-covers : goal.returns-then-covers
returns-then-covers c whole = record {
  id = refl;
  kind = refl;
  covered = sym (join_covered c.args.mine.now.covered c.args.theirs.now.covered (c.covers.ensures.0 c.if-covers.true));
  versions = rw (← c.items.ensures, ← c.items-then-covers.ensures) (c.is_whole.ensures whole);
}

pub is_whole-requires-clause-one_text : goal.is_whole-requires-clause-one_text
is_whole-requires-clause-one_text c =
    rw (c.items.ensures, c.items-then-covers.ensures) (text_of_files c.args.mine.now c.args.theirs.now c.requires.mine c.requires.theirs c.requires.can)

pub is_whole-requires-clause-ordered : goal.is_whole-requires-clause-ordered
is_whole-requires-clause-ordered c = rw c.items.ensures (ordered_of c.args.mine.now c.requires.mine.well_formed)
