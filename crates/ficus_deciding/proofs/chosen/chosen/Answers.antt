use Rattle.std.proofs.Common.{◌≡◌, ◌∷◌, ◌++◌, [], refl, arith}
use Rattle.std.proofs.lemmas.Bool.{false≢true}
use Rattle.std.proofs.lemmas.Grind.{common_steps}
use Rattle.ficus_deciding.proofs.ChosenFiles.{ids_push, ids_stay}
use Rattle.ficus_deciding.proofs.chosen.chosen.Goals as goal
use Rattle.ficus_deciding.proofs.chosen.chosen.Goals.{then-chooses+in_ok-push, else-chooses}

pub loop-index-preserved : goal.loop-index-preserved
loop-index-preserved g c =
    let is = g.C.Choice.Chooses c.args.choice.now in
    let files = c.args.files.now in
    let file = c.at-file.result.now in
    let rising = c.len-index-end.ensures.rising in
    let ids = c.loop-index.ids.items in
    elim c.if-chooses.branch [
      | then-chooses+in_ok-push w ↦
          let pushed : c.if-chooses.ids.items ≡ ids ++ file.id ∷ [] = grind (arith, common_steps) in
          rw pushed (ids_push is files rising c.loop-index.index file c.at-file.ensures ids c.loop-index.invariant
          (w.if-chooses.ensures.0 refl))
      | else-chooses w ↦
          let same : c.if-chooses.ids.items ≡ ids = grind (arith, common_steps) in
          rw same (ids_stay is files rising c.loop-index.index file c.at-file.ensures ids c.loop-index.invariant
          (λ so. false≢true (w.if-chooses.ensures.1 so)))
    ]
