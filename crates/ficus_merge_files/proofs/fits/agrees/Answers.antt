use Rattle.std.proofs.Common.{rules}
use Rattle.std.proofs.lemmas.Bool.{both_ways}
use Rattle.ficus_merge_files.proofs.fits.agrees.Goals as goal

pub returns-then-not-is_consistent : goal.returns-then-not-is_consistent
returns-then-not-is_consistent c = (
  λ is. absurd cc,
  λ all. absurd (both_ways c.is_consistent.result c.if-not-is_consistent.true
      (c.is_consistent.ensures.1 (all c.version-item.result (c.loop-version.version-index, c.loop-version-test.true, search rules)))),
)
