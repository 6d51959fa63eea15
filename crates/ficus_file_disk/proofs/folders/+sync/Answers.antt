use Rattle.std.proofs.lemmas.Result.{on_err_weaker}
use Rattle.ficus_file_disk.proofs.Refusals.{refused_after}
use Rattle.ficus_file_disk.proofs.folders.+sync.Goals as goal

pub returns-in_ok-sync_folder-in-Some-clause-refused : goal.returns-in_ok-sync_folder-in-Some-clause-refused
returns-in_ok-sync_folder-in-Some-clause-refused g t c = λ tells.
    on_err_weaker c.sync.result (refused_after _ _ _ _ (c.in_ok-sync_folder-in-Some.ensures.told tells))
    (c.sync.ensures.refused tells)
