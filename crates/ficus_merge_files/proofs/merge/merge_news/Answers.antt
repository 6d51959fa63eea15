use Rattle.std.proofs.lemmas.Result.{IfOk-weaker}
use Rattle.ficus_merge_files.proofs.Taking.{merged_by_touched}
use Rattle.ficus_merge_files.proofs.merge.merge_news.Goals as goal

pub returns-clause-merged : goal.returns-clause-merged
returns-clause-merged c =
    let mine = c.args.news.now.mine in
    let theirs = c.args.news.now.theirs in
    IfOk-weaker c.merged_with.result _ _ (λ both is.
    merged_by_touched c.args.held.now mine theirs c.in_ok-taken.taken.items c.in_ok-taken.ensures.taken is)
    c.merged_with.ensures.merged
