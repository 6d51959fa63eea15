use Rattle.std.proofs.lemmas.Result.{IfOk-weaker}
use Rattle.ficus_merge_files.proofs.Kept.{merged_flip}
use Rattle.ficus_merge_files.proofs.versions.merged_versions.Goals as goal

pub returns-then-is_whole-2 : goal.returns-then-is_whole-2
returns-then-is_whole-2 c =
    let whole = rw (c.items-else-is_whole.ensures, c.items-else-is_whole-2.ensures) at c.is_whole-else-is_whole.ensures c.if-is_whole-2.true in
    IfOk-weaker c.copy-then-is_whole-2.result _ _
    (λ versions is. rw is (merged_flip c.args.theirs.now c.args.mine.now c.args.theirs.now whole)) c.copy-then-is_whole-2.ensures
