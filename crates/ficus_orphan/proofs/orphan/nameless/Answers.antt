use Rattle.std.proofs.Common.{◌≡◌, ◌∷◌, ◌++◌, [], refl, arith}
use Rattle.std.proofs.lemmas.Bool.{false≢true}
use Rattle.std.proofs.lemmas.Grind.{common_steps}
use Rattle.ficus_orphan.proofs.Told.{orphans_push, orphans_stay}
use Rattle.ficus_orphan.proofs.orphan.nameless.Goals as goal
use Rattle.ficus_orphan.proofs.orphan.nameless.Goals.{then-is_left+in_ok-push, else-is_left}

pub loop-index-preserved : goal.loop-index-preserved
loop-index-preserved c =
    let entries = c.args.entries.now in
    let files = c.args.files.now in
    let file = c.at-file.result.now in
    let rising = c.len-index-end.ensures.rising in
    elim c.if-is_left.branch [
      | then-is_left+in_ok-push w ↦
          let pushed : c.if-is_left.orphans.items ≡ c.loop-index.orphans.items ++ w.orphan_of.result ∷ [] =
          grind (arith, common_steps) in
          rw pushed (orphans_push entries files rising c.loop-index.index file c.at-file.ensures
          c.loop-index.orphans.items c.loop-index.invariant w.orphan_of.result (w.if-is_left.ensures.0 refl)
          w.orphan_of.ensures)
      | else-is_left w ↦
          let same : c.if-is_left.orphans.items ≡ c.loop-index.orphans.items = grind (arith, common_steps) in
          rw same (orphans_stay entries files rising c.loop-index.index file c.at-file.ensures
          c.loop-index.orphans.items c.loop-index.invariant (λ is. false≢true (w.if-is_left.ensures.1 is)))
    ]
