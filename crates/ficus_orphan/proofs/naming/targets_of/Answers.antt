use Rattle.std.proofs.Common.{◌≡◌, ◌≤◌, ◌∷◌, ◌++◌, [], length, refl, sym, arith}
use Rattle.std.proofs.lemmas.Bool.{false≢true}
use Rattle.std.proofs.lemmas.Grind.{common_steps}
use Rattle.ficus_entry.specs.Inside.{IsNameFor}
use Rattle.ficus_orphan.proofs.Made.{made_all, made_push, made_stay}
use Rattle.ficus_orphan.proofs.Told.{named_made}
use Rattle.ficus_orphan.proofs.naming.targets_of.Goals as goal
use Rattle.ficus_orphan.proofs.naming.targets_of.Goals.{then-is_live+in_ok-push, else-is_live}

pub loop-index-preserved : goal.loop-index-preserved
loop-index-preserved c =
    let entries = c.args.entries.now in
    let entry = c.at-entry.result.now in
    elim c.if-is_live.branch [
      | then-is_live+in_ok-push w ↦
          let pushed : c.if-is_live.targets.items ≡ c.loop-index.targets.items ++ entry.target ∷ [] =
          grind (arith, common_steps) in
          rw pushed (made_push IsNameFor entries c.loop-index.index entry c.at-entry.ensures c.loop-index.targets.items
          c.loop-index.invariant entry.target (record { live = w.if-is_live.ensures.0 refl; leads = refl })
          (λ object names. sym names.leads))
      | else-is_live w ↦
          let same : c.if-is_live.targets.items ≡ c.loop-index.targets.items = grind (arith, common_steps) in
          rw same (made_stay IsNameFor entries c.loop-index.index entry c.at-entry.ensures c.loop-index.targets.items
          c.loop-index.invariant (λ object names. false≢true (w.if-is_live.ensures.1 names.live)))
    ]

pub returns : goal.returns
returns c = λ object.
    let entries = c.args.entries.now in
    let past : length entries ≤ c.loop-index.index = grind (arith, common_steps) in
    let all = (made_all IsNameFor entries c.loop-index.index c.loop-index.targets.items past c.loop-index.invariant).all object in
    let named = named_made entries object in
    (λ inside. named.0 (all.0 inside), λ is. all.1 (named.1 is))
