use Rattle.ficus_ids.specs.Id.{id_cmp}
use Rattle.ficus_names.proofs.Leads.{lead_bound, same_leads}
use Rattle.ficus_names.proofs.Order.{lead_cmp-Equal}
use Rattle.ficus_names.proofs.clash.same_names.Goals as goal

pub once_each-leads-requires : goal.once_each-leads-requires
unfolding id_cmp
once_each-leads-requires c = record { exact = lead_cmp-Equal }

pub once_each-others-requires : goal.once_each-others-requires
unfolding id_cmp
once_each-others-requires c = record { exact = lead_cmp-Equal }

pub are_same-requires : goal.are_same-requires
unfolding id_cmp
are_same-requires c = record { exact = lead_cmp-Equal }

pub returns : goal.returns
unfolding id_cmp
returns c =
    let leads = c.once_each-leads.result.items in
    let others = c.once_each-others.result.items in
    let bound = lead_bound c.args.one.now c.in_ok-leads_of.field-0.items leads c.once_each-leads.ensures.same
    c.in_ok-leads_of.ensures in
    let bound_too = lead_bound c.args.other.now c.in_ok-leads_of-2.field-0.items others c.once_each-others.ensures.same
    c.in_ok-leads_of-2.ensures in
    let same = same_leads leads others c.once_each-leads.ensures.rising c.once_each-others.ensures.rising in
    let tests = rw (c.deref.ensures.value, c.deref-2.ensures.value) at c.are_same.ensures in (
      λ flag dir name target.
          let lists = same.0 (tests.0 flag) dir name target in
          let here = bound dir name target in
          let there = bound_too dir name target in (
            λ is. there.0 (lists.0 (here.1 is)),
            λ is. here.0 (lists.1 (there.1 is)),
          ),
      λ names. tests.1 (same.1 (λ dir name target.
          let here = bound dir name target in
          let there = bound_too dir name target in
          let either = names dir name target in (
            λ inside. there.1 (either.0 (here.0 inside)),
            λ inside. here.1 (either.1 (there.0 inside)),
          ))),
    )
