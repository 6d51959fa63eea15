use Rattle.std.proofs.Common.{sym, subst, ◌∙◌}
use Rattle.std.proofs.lemmas.Bool.{false≢true}
use Rattle.std.proofs.lemmas.Result.{err_from_is_err_and}
use Rattle.ficus_ids.specs.Members.{IsMember}
use Rattle.ficus_loop.specs.Performing.AnswersWhy.{OfNobody, OfOneDown, OfOneUp}
use Rattle.ficus_loop.proofs.Certificates.{why_down, why_nobody, why_told, why_wanted}
use Rattle.ficus_loop.proofs.explaining.answer_why.Goals as goal

pub returns-then-not-has-clause-answers : goal.returns-then-not-has-clause-answers
returns-then-not-has-clause-answers g c = λ volume W stands.
    why_nobody volume W c.args.world.now.whole stands c.args.by
    (λ is. false≢true (sym c.if-not-has.true ∙ c.has.ensures.1 (subst (λ n. IsMember n c.args.by)
    (sym c.members.ensures) is)))

pub returns-then-is_none-clause-answers : goal.returns-then-is_none-clause-answers
returns-then-is_none-clause-answers g c = λ volume W stands.
    why_down volume W c.args.world.now.whole stands c.args.by
    (subst (λ n. IsMember n c.args.by) c.members.ensures (c.has.ensures.0 c.if-not-has.false))
    (λ up. false≢true (sym c.if-is_none.ensures ∙ c.replica.ensures.up.1 up))

pub returns-clause-answers : goal.returns-clause-answers
returns-clause-answers g c = λ volume W stands.
    why_told volume W c.args.world.now.whole stands c.args.by c.in_ok-lines.lines
    (c.replica.ensures.up.0 c.if-is_none.ensures)
    (rw c.history.ensures.events at c.in_ok-lines.ensures)

pub returns-in_err-lines-clause-wants : goal.returns-in_err-lines-clause-wants
returns-in_err-lines-clause-wants g c = λ volume W stands.
    let wanted = err_from_is_err_and c.from_residual.result c.from_residual.ensures.1 in
    rw wanted.1 (why_wanted volume W c.args.world.now.whole stands c.args.by
    (c.replica.ensures.up.0 c.if-is_none.ensures))

pub returns-then-not-has-clause-explains : goal.returns-then-not-has-clause-explains
returns-then-not-has-clause-explains g c =
    OfNobody (λ is. false≢true (sym c.if-not-has.true ∙ c.has.ensures.1 (subst (λ n. IsMember n c.args.by)
    (sym c.members.ensures) is)))

pub returns-then-is_none-clause-explains : goal.returns-then-is_none-clause-explains
returns-then-is_none-clause-explains g c =
    OfOneDown (subst (λ n. IsMember n c.args.by) c.members.ensures (c.has.ensures.0 c.if-not-has.false))
    (λ up. false≢true (sym c.if-is_none.ensures ∙ c.replica.ensures.up.1 up))

pub returns-clause-explains : goal.returns-clause-explains
returns-clause-explains g c =
    OfOneUp (c.replica.ensures.up.0 c.if-is_none.ensures) (rw c.history.ensures.events at c.in_ok-lines.ensures)

pub returns-in_err-lines-clause-up : goal.returns-in_err-lines-clause-up
returns-in_err-lines-clause-up g c =
    let wanted = err_from_is_err_and c.from_residual.result c.from_residual.ensures.1 in
    rw wanted.1 (c.replica.ensures.up.0 c.if-is_none.ensures)
