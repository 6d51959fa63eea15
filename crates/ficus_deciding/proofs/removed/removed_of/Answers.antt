use Rattle.std.proofs.Common.{◌≡◌, ◌<◌, ◌∷◌, ◌++◌, [], length, refl, arith}
use Rattle.std.proofs.lemmas.Grind.{common_steps}
use Rattle.ficus_deciding.proofs.Refusals.{isnt}
use Rattle.ficus_deciding.proofs.RemovedEntries.{removed_push, removed_stay}
use Rattle.ficus_deciding.proofs.removed.removed_of.Goals as goal
use Rattle.ficus_deciding.proofs.removed.removed_of.Goals.{then-not-is_live+in_ok-copy+in_ok-push, else-not-is_live}

pub loop-index-preserved : goal.loop-index-preserved
loop-index-preserved c =
    let entries = c.args.entries.now in
    let index = c.loop-index.index in
    let entry = c.at-entry.result.now in
    let within : index < length entries = omega (arith, c.loop-index-test.true, c.len-index-end.ensures.value) in
    elim c.if-not-is_live.branch [
      | then-not-is_live+in_ok-copy+in_ok-push w ↦
          let pushed : c.if-not-is_live.removed.items ≡ c.loop-index.removed.items ++ entry ∷ [] =
          grind (arith, common_steps) in
          rw pushed (removed_push entries index entry c.at-entry.ensures within c.loop-index.removed.items
          (isnt w.if-not-is_live.ensures) c.loop-index.invariant)
      | else-not-is_live w ↦
          let same : c.if-not-is_live.removed.items ≡ c.loop-index.removed.items = grind (arith, common_steps) in
          rw same (removed_stay entries index entry c.at-entry.ensures within c.loop-index.removed.items
          (w.if-not-is_live.ensures.0 refl) c.loop-index.invariant)
    ]
