use Rattle.std.proofs.Common.{subst}
use Rattle.std.proofs.lemmas.Result.{err_from_is_err_and}
use Rattle.ficus_rules.specs.Change.{ChangeAnswer}
use Rattle.ficus_deciding.specs.View.{tables_view}
use Rattle.ficus_deciding.proofs.Sound.{may_where_given}
use Rattle.ficus_replica.proofs.Changing.{change_done}
use Rattle.ficus_replica.proofs.Ready.{change_noted, change_ready}
use Rattle.ficus_replica.proofs.replica.Replica.done.Goals as goal

pub applied-requires-clause-ready : goal.applied-requires-clause-ready
applied-requires-clause-ready c =
    let change = c.requires.change.0 in
    change_ready c.requires.fits change c.in_ok-op.op
    (subst (ChangeAnswer (tables_view c.args.self.now.saved) change) c.in_ok-op.was c.requires.change.1)

pub returns-in_err-applied-clause-gives : goal.returns-in_err-applied-clause-gives
returns-in_err-applied-clause-gives c = λ change answer.
    let residual = c.from_residual-in_err-applied in
    let wanted = err_from_is_err_and residual.result residual.ensures.1 in
    rw (wanted.1, wanted.2)
    (may_where_given c.requires.fits change c.in_ok-op.op
    (subst (ChangeAnswer (tables_view c.args.self.now.saved) change) c.in_ok-op.was answer))

pub returns-clause-gives : goal.returns-clause-gives
returns-clause-gives c = λ change answer.
    change_done c.args.self.now change c.in_ok-op.op c.in_ok-applied.field-0
    (subst (ChangeAnswer (tables_view c.args.self.now.saved) change) c.in_ok-op.was answer)
    c.in_ok-applied.ensures.op c.in_ok-applied.ensures.applied c.in_ok-applied.ensures.ask

pub returns-clause-noted : goal.returns-clause-noted
returns-clause-noted c =
    let change = c.requires.change.0 in
    change_noted c.requires.fits change c.in_ok-op.op _ _ c.requires.generation c.tell_name.ensures
    (subst (ChangeAnswer (tables_view c.args.self.now.saved) change) c.in_ok-op.was c.requires.change.1)
    c.in_ok-applied.ensures.op c.in_ok-applied.ensures.applied c.in_ok-applied.ensures.fits
