use Rattle.std.proofs.Common.{◌∙◌}
use Rattle.std.proofs.lemmas.Result.{IfOk-weaker}
use Rattle.ficus_merge_entries.proofs.Running.{merges_where_made}
use Rattle.ficus_merge_entries.proofs.runs.merge_runs.Goals as goal

pub returns-clause-merged : goal.returns-clause-merged
returns-clause-merged g c =
    IfOk-weaker c.of_rows.result _ _
    (λ built is. merges_where_made c.args.me c.args.members (g.A.Run.left c.args.mine.now) (g.B.Run.left c.args.theirs.now)
    c.collect_runs.new.merged.items built
    (rw (c.new.ensures.number, c.new.ensures.members) at c.in_ok-collect_runs.ensures.made) (is ∙ c.deref.ensures.value))
    c.of_rows.ensures
