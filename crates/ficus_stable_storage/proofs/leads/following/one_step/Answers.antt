use Rattle.ficus_stable_storage.proofs.leads.Splitting.{led_fit}
use Rattle.ficus_stable_storage.proofs.leads.following.one_step.Goals as goal

pub returns-clause-none : goal.returns-clause-none
returns-clause-none c = λ next leads.
    let spelled = rw c.items.ensures at c.in_ok-noted.ensures.spelled in (
      c.into_applied.ensures.never,
      λ is. c.into_applied.ensures.unfit is
          (led_fit c.args.body c.args.old.saved next c.in_ok-noted.noted c.requires c.in_ok-noted.ensures.fits spelled
          leads),
    )
