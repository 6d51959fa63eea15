use Rattle.std.proofs.Common.{◌↔◌, ℕ, List}
use Rattle.std.proofs.lemmas.Map.Keys.{Less-from_sorted}
use Rattle.ficus_ids.specs.Id.{id_cmp}
use Rattle.ficus_ids.specs.declared.id.Id.{Id}
use Rattle.ficus_names.specs.Binds.{BindsIn}
use Rattle.ficus_names.specs.Clash.{clash_cmp, LeadsFrom}
use Rattle.ficus_names.specs.ClashLaws.{several-along}
use Rattle.ficus_names.proofs.Leads.{lead_bound}
use Rattle.ficus_names.proofs.Order.{clash_cmp-Equal, lead_cmp-Equal}
use Rattle.ficus_names.proofs.clash.name_clashes.Goals as goal

pub once_each-leads-requires : goal.once_each-leads-requires
unfolding id_cmp
once_each-leads-requires c = record { exact = lead_cmp-Equal }

pub shared_places-requires : goal.shared_places-requires
unfolding id_cmp
shared_places-requires c = rw c.deref.ensures.value c.once_each-leads.ensures.rising

pub once_each-requires : goal.once_each-requires
unfolding id_cmp
once_each-requires c = record { exact = clash_cmp-Equal }

pub returns : goal.returns
unfolding id_cmp
returns c =
    let leads = c.once_each-leads.result.items in
    record {
      all = λ clash.
          let bound : (name : List ℕ) (target : Id) → LeadsFrom c.deref.result.now clash.dir name target ↔
          BindsIn c.args.entries.now clash.dir name target =
          rw c.deref.ensures.value (λ name target. lead_bound c.args.entries.now c.in_ok-leads_of.field-0.items leads
          c.once_each-leads.ensures.same c.in_ok-leads_of.ensures clash.dir name target) in
          let kept = c.once_each.ensures.same clash in
          let shared = c.in_ok-shared_places.ensures clash in
          let several = several-along bound clash.name in
          (λ inside. several.0 (shared.0 (kept.0 inside)), λ is. kept.1 (shared.1 (several.1 is)));
      rising = λ one other d before within.
          Less-from_sorted clash_cmp c.once_each.result.items one other d c.once_each.ensures.rising before within;
    }
