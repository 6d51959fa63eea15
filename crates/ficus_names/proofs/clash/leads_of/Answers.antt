use Rattle.std.proofs.Common.{◌≡◌, ◌∷◌, ◌++◌, [], take, refl, arith}
use Rattle.std.proofs.lemmas.Bool.{false≢true}
use Rattle.std.proofs.lemmas.Grind.{common_steps}
use Rattle.ficus_names.proofs.Leads.{lead_of, leads_push, leads_stay}
use Rattle.ficus_names.proofs.clash.leads_of.Goals as goal
use Rattle.ficus_names.proofs.clash.leads_of.Goals.{then-is_live+in_ok-lead_of+in_ok-push, else-is_live}

pub loop-index-preserved : goal.loop-index-preserved
loop-index-preserved c =
    let at = rw c.in_ok-in_order.ensures at c.at-entry.ensures in
    let entry = c.at-entry.result.now in
    elim c.if-is_live.branch [
      | then-is_live+in_ok-lead_of+in_ok-push w ↦
          let pushed : c.if-is_live.leads.items ≡ c.loop-index.leads.items ++ lead_of entry ∷ [] =
          grind (arith, common_steps) in
          rw pushed (leads_push c.args.entries.now c.loop-index.index entry at c.loop-index.leads.items
          c.loop-index.invariant (w.if-is_live.ensures.0 refl))
      | else-is_live w ↦
          let same : c.if-is_live.leads.items ≡ c.loop-index.leads.items = grind (arith, common_steps) in
          rw same (leads_stay c.args.entries.now c.loop-index.index entry at c.loop-index.leads.items
          c.loop-index.invariant (λ live. false≢true (w.if-is_live.ensures.1 live)))
    ]

pub returns : goal.returns
returns c =
    let whole : take c.loop-index.index c.args.entries.now ≡ c.args.entries.now = grind (arith, common_steps) in
    rw whole at c.loop-index.invariant
