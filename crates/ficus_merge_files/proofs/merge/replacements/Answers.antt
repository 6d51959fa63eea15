use Rattle.ficus_merge_files.proofs.New.{of_theirs_at}
use Rattle.ficus_merge_files.proofs.Walk.{replacements_more}
use Rattle.ficus_merge_files.proofs.merge.replacements.Goals as goal

pub add_replacement-requires-clause-theirs : goal.add_replacement-requires-clause-theirs
add_replacement-requires-clause-theirs c =
    of_theirs_at c.args.news.now.mine c.args.news.now.theirs c.args.news.now.new c.loop-index.index
    c.at.result.theirs.now c.len-index-end.ensures.new c.at.ensures.theirs

pub loop-index-preserved : goal.loop-index-preserved
loop-index-preserved c =
    replacements_more c.args.held.now c.args.news.now.mine c.args.news.now.new c.loop-index.index c.at.result.theirs.now
    c.len-index-end.ensures.mine.rising c.len-index-end.ensures.new.rising c.at.ensures.theirs
    c.loop-index.replacements.items c.add_replacement.new.replacements.items c.loop-index.invariant c.in_ok-add_replacement.ensures
