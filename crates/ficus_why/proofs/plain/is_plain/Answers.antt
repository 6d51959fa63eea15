use Rattle.std.proofs.Common.{refl, sym, subst, ◌∙◌, arith}
use Rattle.std.proofs.lemmas.List.{take_all}
use Rattle.std.proofs.lemmas.Bool.{false≢true}
use Rattle.ficus_model.specs.Events.{IsAt}
use Rattle.ficus_why.specs.Plain.{IsPlain}
use Rattle.ficus_why.proofs.Showing.{member_at, plain_more}
use Rattle.ficus_why.proofs.plain.is_plain.Goals as goal

pub returns-then-not-is_replica : goal.returns-then-not-is_replica
returns-then-not-is_replica c =
    let at : IsAt c.args.history.now.events c.loop-position.position c.in-Some.event.now =
    record { is = sym c.in-Some.ensures } in (
      λ is. absurd (false≢true is),
      λ plain. absurd (false≢true (sym c.if-not-is_replica.true ∙ c.is_replica.ensures.1 (rw c.actor_of.ensures (member_at plain at)))),
    )

pub loop-position-preserved : goal.loop-position-preserved
loop-position-preserved c =
    plain_more (record { is = sym c.in-Some.ensures }) c.loop-position.invariant
    (rw (sym c.actor_of.ensures) (c.is_replica.ensures.0 c.if-not-is_replica.false))

pub returns : goal.returns
returns c =
    let past = c.loop-position-test.false in
    let all = take_all c.loop-position.position c.args.history.now.events (omega (arith, c.len-position-end.ensures.value)) in
    (λ is. subst IsPlain all c.loop-position.invariant, λ plain. refl)
