use Rattle.std.proofs.Common.{inl, inr}
use Rattle.std.proofs.lemmas.Result.{err_from_is_err_and}
use Rattle.ficus_deciding.specs.Files.{found_as}
use Rattle.ficus_deciding.proofs.walk.places_of.Goals as goal

pub returns-in_err-dir-clause-rule : goal.returns-in_err-dir-clause-rule
returns-in_err-dir-clause-rule c =
    let given = err_from_is_err_and c.from_residual-in_err-dir.result c.from_residual-in_err-dir.ensures.1 in
    rw (given.1, given.2) (inr (found_as c.in_ok-found.found, c.in_ok-found.ensures.rule, inl c.in_err-dir.ensures))

pub returns-in_err-found-clause-rule : goal.returns-in_err-found-clause-rule
returns-in_err-found-clause-rule c =
    let given = err_from_is_err_and c.from_residual.result c.from_residual.ensures.1 in
    rw (given.1, given.2) (inl c.in_err-found.ensures.rule)
