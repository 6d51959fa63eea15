use Rattle.std.proofs.Common.{◌≡◌, Err, ap}
use Rattle.std.proofs.lemmas.Result.{err_from_is_err_and}
use Rattle.ficus_keeper.specs.declared.fault.StoreFault.TheVariants.{NoImage}
use Rattle.ficus_opening.proofs.check.Owning.{none_own}
use Rattle.ficus_opening.proofs.check.own.open_own.Goals as goal

pub returns-in_err-found-clause-none : goal.returns-in_err-found-clause-none
returns-in_err-found-clause-none g c = λ told is saved fits holds own.
    let from = err_from_is_err_and c.from_residual.result c.from_residual.ensures.1 in
    let fails = rw (from.1, from.2) at is in
    let same : c.in_err-found.field-0.0 ≡ NoImage = cc in
    c.in_err-found.ensures.none told (ap Err same) saved fits holds

pub returns-else-is_own-clause-none : goal.returns-else-is_own-clause-none
returns-else-is_own-clause-none g c = λ told is.
    none_own g.K.Keep.kept g.D.Disk.seen c.one_saved.ensures c.args.disks.now c.open.new.disks c.args.number
    c.in_ok-found.found.saved c.is_own.result (c.open.ensures.same told) (c.in_ok-found.ensures.ready told).holds
    c.if-is_own.false c.is_own.ensures
