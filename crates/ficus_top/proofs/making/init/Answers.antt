use Rattle.std.proofs.Common.{Ok}
use Rattle.std.proofs.lemmas.Result.{IfErr-at_err, err_from_is_err_and}
use Rattle.ficus_opening.specs.declared.fault.WorldFault.TheVariants.{Store}
use Rattle.ficus_top.proofs.Stored.{handed_on}
use Rattle.ficus_top.proofs.Storing.{making_behind, making_handed}
use Rattle.ficus_top.proofs.making.init.Goals as goal

pub returns-in_err-make-clause-spared : goal.returns-in_err-make-clause-spared
returns-in_err-make-clause-spared g c = λ fault unfailed is.
    let given = err_from_is_err_and c.from_residual.result c.from_residual.ensures.1 in
    c.make.ensures.makes.spared fault unfailed
    (handed_on c.make.result c.from_residual.result _ _ c.in_err-make.was given.1 given.2 fault is)

pub returns-in_err-make-clause-member : goal.returns-in_err-make-clause-member
returns-in_err-make-clause-member g c = λ r is.
    let given = err_from_is_err_and c.from_residual.result c.from_residual.ensures.1 in
    c.make.ensures.makes.member r
    (handed_on c.make.result c.from_residual.result _ _ c.in_err-make.was given.1 given.2 (Store r) is)

pub returns-in_err-make-clause-partly : goal.returns-in_err-make-clause-partly
returns-in_err-make-clause-partly g c = λ tells empty synced fault is.
    let given = err_from_is_err_and c.from_residual.result c.from_residual.ensures.1 in
    IfErr-at_err _ (handed_on c.make.result c.from_residual.result _ _ c.in_err-make.was given.1 given.2 fault is)
    (c.make.ensures.makes.partly tells empty synced)

pub returns-in_err-make-clause-makes : goal.returns-in_err-make-clause-makes
returns-in_err-make-clause-makes g c =
    let given = err_from_is_err_and c.from_residual.result c.from_residual.ensures.1 in
    making_handed g.D.Disk c.make.result c.from_residual.result _ _ c.in_err-make.was given.1 given.2
    c.make.ensures.makes

pub returns-clause-makes : goal.returns-clause-makes
returns-clause-makes g c = making_behind g.D.Disk (Ok tt) tt c.in_ok-make.ensures.makes
