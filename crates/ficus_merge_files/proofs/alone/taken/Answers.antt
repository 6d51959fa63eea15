use Rattle.std.proofs.lemmas.Result.{IfOk-weaker}
use Rattle.ficus_merge_files.proofs.Taking.{taken_is}
use Rattle.ficus_merge_files.proofs.alone.taken.Goals as goal

pub returns-clause-taken : goal.returns-clause-taken
returns-clause-taken c =
    let alone = c.in_ok-alone.alone.items in
    IfOk-weaker c.touched.result _ _
    (λ kept is. taken_is c.args.entries.now c.args.news.now.mine c.args.news.now.theirs alone kept.items
    c.in_ok-alone.ensures.alone (rw c.deref.ensures.value at is))
    c.touched.ensures.touched
