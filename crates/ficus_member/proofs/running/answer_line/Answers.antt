use Rattle.std.proofs.lemmas.Result.{err_from_is_err_and}
use Rattle.std.proofs.Common.{Err, ap, refl}
use Rattle.ficus_loop.specs.declared.fault.AnsweringFault.{AnsweringFault}
use Rattle.ficus_member.proofs.Answering.{answered, unanswered, unput}
use Rattle.ficus_member.proofs.running.answer_line.Goals as goal

pub returns-in_err-answer-clause-ends : goal.returns-in_err-answer-clause-ends
returns-in_err-answer-clause-ends g c =
    let given = err_from_is_err_and c.from_residual.result c.from_residual.ensures.1 in
    rw (given.1, given.2) (unanswered c.in_err-answer.field-0.0 c.in_err-answer.ensures refl)

pub returns-in_err-put_answer-clause-ends : goal.returns-in_err-put_answer-clause-ends
returns-in_err-put_answer-clause-ends g c =
    let leaves = c.from_residual-in_err-put_answer in
    let given = err_from_is_err_and leaves.result leaves.ensures.1 in
    rw (given.1, given.2)
    (unput c.in_ok-answer.answer c.in_err-put_answer.field-0.0 c.in_ok-answer.ensures
    (λ is. c.in_err-put_answer.ensures.silent (ap (λ (f : AnsweringFault). Err f) is))
    (λ is. c.in_err-put_answer.ensures.front (ap (λ (f : AnsweringFault). Err f) is)))

pub returns-clause-ends : goal.returns-clause-ends
returns-clause-ends g c = answered c.in_ok-answer.answer c.in_ok-answer.ensures c.in_ok-put_answer.ensures.put
