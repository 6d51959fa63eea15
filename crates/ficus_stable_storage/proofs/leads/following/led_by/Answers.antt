use Rattle.std.proofs.Common.{subst}
use Rattle.std.proofs.lemmas.Result.{err_from_is_err_and}
use Rattle.ficus_stable_storage.proofs.leads.Splitting.{IsLedTo, next_leads, one_more_led, same_fault}
use Rattle.ficus_stable_storage.proofs.leads.following.led_by.Goals as goal

pub returns-in_err-replica-clause-none : goal.returns-in_err-replica-clause-none
returns-in_err-replica-clause-none c = λ saved leads.
    let now = c.records.replica.saved in
    let next = next_leads c.one_led.ensures.led c.args.records.items c.args.base now saved c.in-Some.body _ c.requires
    (subst (IsLedTo c.args.records.items c.args.base now) c.in-Some.ensures.steps.0 c.records.invariant) leads in
    let none = c.in_err-replica.ensures.none next.0 next.1 in
    let wanted = err_from_is_err_and c.from_residual.result c.from_residual.ensures.1 in
    rw (wanted.1, wanted.2) (λ is. none.0 (same_fault _ _ is), λ is. none.1 (same_fault _ _ is))

pub records-preserved : goal.records-preserved
records-preserved c =
    let now = c.records.replica.saved in
    one_more_led c.args.records.items c.args.base now c.in_ok-replica.replica.saved c.in-Some.body _
    (subst (IsLedTo c.args.records.items c.args.base now) c.in-Some.ensures.steps.0 c.records.invariant)
    c.in_ok-replica.ensures.led
