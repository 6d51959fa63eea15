use Rattle.ficus_merge_files.proofs.Walk.{AreReplacementsSoFar}
use Rattle.ficus_merge_files.proofs.merge.replacements.Given as goal

abbrev pub invariant-loop-index : goal.invariant-loop-index
invariant-loop-index l = AreReplacementsSoFar l.held l.news.mine l.news.new l.replacements.items l.index
