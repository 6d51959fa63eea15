use Rattle.std.proofs.Common.{◌≡◌, Err, ap}
use Rattle.std.proofs.lemmas.Result.{err_from_is_err_and}
use Rattle.ficus_keeper.specs.declared.fault.StoreFault.TheVariants.{NoImage}
use Rattle.ficus_stable_storage.proofs.stable.recover.Goals as goal

pub returns-in_err-saved-clause-none : goal.returns-in_err-saved-clause-none
returns-in_err-saved-clause-none g c is =
    let from = err_from_is_err_and c.from_residual.result c.from_residual.ensures.1 in
    let fails = rw (from.1, from.2) at is in
    let same : c.in_err-saved.field-0.0 ≡ NoImage = cc in
    c.in_err-saved.ensures.none (ap Err same)
