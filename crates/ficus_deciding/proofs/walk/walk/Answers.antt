use Rattle.std.proofs.Common.{arith}
use Rattle.std.proofs.lemmas.Result.{err_from_is_err_and}
use Rattle.ficus_deciding.proofs.WalkSteps.{reached_next, refused_part, reached_end}
use Rattle.ficus_deciding.proofs.walk.walk.Goals as goal

pub returns-in_err-object-2-clause-rule : goal.returns-in_err-object-2-clause-rule
returns-in_err-object-2-clause-rule c =
    let p = err_from_is_err_and c.from_residual-in_err-object-2.result c.from_residual-in_err-object-2.ensures.1 in
    rw (p.1, p.2) (refused_part c.args.saved.now c.loop-part.part-index c.part-item.result c.loop-part-test.true
    c.part-item.is c.loop-part.invariant _ c.in_err-object-2.ensures.rule)

pub loop-part-preserved : goal.loop-part-preserved
loop-part-preserved c =
    reached_next c.args.saved.now c.loop-part.part-index c.part-item.result c.loop-part-test.true c.part-item.is
    c.loop-part.invariant _ c.in_ok-object-2.ensures.shown c.in_ok-object-2.ensures.rule

pub returns-clause-rule : goal.returns-clause-rule
returns-clause-rule c =
    reached_end c.args.saved.now c.loop-part.part-index (omega arith) c.loop-part.invariant
