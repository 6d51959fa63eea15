use Rattle.ficus_file_disk.proofs.Refusals.{on_err, refused_after}
use Rattle.ficus_file_disk.proofs.stored_file.StoredFile.make.Goals as goal

pub returns-in_err-make-clause-refused : goal.returns-in_err-make-clause-refused
returns-in_err-make-clause-refused g c = λ tells.
    on_err c.from_residual-in_err-make.result
    (refused_after _ _ _ _ (c.in_ok-missing.ensures.told tells) (c.in_err-make.ensures.refused tells))
