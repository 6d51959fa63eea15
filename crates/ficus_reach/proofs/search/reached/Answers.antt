use Rattle.std.proofs.Common.{◌↔◌, Contains}
use Rattle.std.proofs.lemmas.Result.{IfOk-weaker}
use Rattle.ficus_ids.specs.declared.id.Id.{Id}
use Rattle.ficus_model.specs.Reached.{IsReached}
use Rattle.ficus_reach.specs.Leads.{LeadsIn}
use Rattle.ficus_reach.proofs.search.reached.Goals as goal

pub returns-clause-exact : goal.returns-clause-exact
returns-clause-exact c =
    let found = c.in_ok-found_from.field-0.order.items in
    let exact = c.in_ok-found_from.ensures.exact in
    IfOk-weaker c.into_rising.result
    (λ objects. (object : Id) → Contains objects.items object ↔ Contains found object)
    (λ objects. (object : Id) → Contains objects.items object ↔
    IsReached (LeadsIn c.args.entries.now) (Contains c.args.from.now) object)
    (λ objects same object. (
      λ inside. (exact object).0 ((same object).0 inside),
      λ reached. (same object).1 ((exact object).1 reached),
    )) c.into_rising.ensures.same
