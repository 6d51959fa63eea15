use Rattle.ficus_file_disk.proofs.Refusals.{on_err, refused_after}
use Rattle.ficus_file_disk.proofs.folders.+count_missing.Goals as goal

pub returns-in_err-count_missing-in-Some-clause-refused : goal.returns-in_err-count_missing-in-Some-clause-refused
returns-in_err-count_missing-in-Some-clause-refused g t c = λ tells.
    on_err c.from_residual-in_err-count_missing-in-Some.result
    (refused_after _ _ _ _ (c.in_ok-has_folder-in-Some.ensures.told tells)
    (c.in_err-count_missing-in-Some.ensures.refused tells))
