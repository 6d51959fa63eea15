use Rattle.std.proofs.Common.{◌≡◌, Err, ap}
use Rattle.std.proofs.lemmas.Result.{err_from_is_err_and}
use Rattle.ficus_keeper.specs.declared.fault.StoreFault.TheVariants.{NoImage}
use Rattle.ficus_stable_storage.proofs.leads.Led.{all_led_fits}
use Rattle.ficus_stable_storage.proofs.Backing.{held_base, holds_nothing}
use Rattle.ficus_stable_storage.proofs.reading.read_back.Goals as goal

pub returns-in_err-base-clause-none : goal.returns-in_err-base-clause-none
returns-in_err-base-clause-none c is saved holds =
    let from = err_from_is_err_and c.from_residual.result c.from_residual.ensures.1 in
    let fails = rw (from.1, from.2) at is in
    let same : c.in_err-base.field-0.0 ≡ NoImage = cc in
    c.in_err-base.ensures.none (ap Err same) holds.base (held_base c.args.opened saved holds)

pub returns-in-Ok-clause-fits : goal.returns-in-Ok-clause-fits
returns-in-Ok-clause-fits c =
    all_led_fits c.into_vec.result.items c.in_ok-base.base c.in-Ok.saved c.in_ok-base.ensures.fits c.in-Ok.ensures.led

pub returns-in-Err-clause-none : goal.returns-in-Err-clause-none
returns-in-Err-clause-none c is saved holds =
    let told : c.told.result ≡ NoImage = cc in
    let none = rw c.into_vec.ensures at c.in-Err.ensures.none in
    holds_nothing c.args.opened c.in_ok-base.base saved c.in_ok-base.ensures.spelled holds
    c.in-Err.fault (λ wanted. let memory = c.told.ensures.memory.1 wanted in absurd (cc)) (λ e end leads. (none end leads).0 (ap Err e))
    (λ e end leads. (none end leads).1 (ap Err e))
