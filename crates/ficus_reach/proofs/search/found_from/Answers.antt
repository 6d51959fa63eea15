use Rattle.std.proofs.Common.{◌↔◌, Contains}
use Rattle.ficus_ids.specs.declared.id.Id.{Id}
use Rattle.ficus_reach.proofs.Followed.{reached_along}
use Rattle.ficus_reach.specs.Leads.{LeadsIn}
use Rattle.ficus_reach.specs.Edge.{Edges}
use Rattle.ficus_reach.proofs.search.found_from.Goals as goal

pub returns-clause-exact : goal.returns-clause-exact
returns-clause-exact c =
    let known : (dir object : Id) → Edges c.deref.result.now dir object ↔ LeadsIn c.args.entries.now dir object =
    rw c.deref.ensures.value c.in_ok-edges.ensures.edges in
    reached_along c.args.entries.now c.deref.result.now c.args.from.now c.new-found.result.order.items
    c.add_all.new.self.order.items c.follow.new.found.order.items c.new-found.ensures.empty c.in_ok-add_all.ensures.gains
    known c.in_ok-follow.ensures.reached
