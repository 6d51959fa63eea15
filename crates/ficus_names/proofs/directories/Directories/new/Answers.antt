use Rattle.std.proofs.Common.{◌≡◌, take, refl, arith}
use Rattle.std.proofs.lemmas.Bool.{false≢true}
use Rattle.std.proofs.lemmas.Grind.{common_steps}
use Rattle.ficus_names.proofs.ByDirectory.{directories_push, directories_stay}
use Rattle.ficus_names.proofs.directories.Directories.new.Goals as goal
use Rattle.ficus_names.proofs.directories.Directories.new.Goals.{then-is_live+in_ok-copy+in_ok-add, else-is_live}

pub loop-index-preserved : goal.loop-index-preserved
loop-index-preserved c =
    let at = rw c.in_ok-in_order.ensures at c.at-entry.ensures in
    elim c.if-is_live.branch [
      | then-is_live+in_ok-copy+in_ok-add w ↦
          let name : w.in_ok-copy.field-0 ≡ c.at-entry.result.now.name = cc w.in_ok-copy.ensures in
          let here = rw name at w.in_ok-add.ensures.here in
          rw w.directories-is (directories_push c.args.entries.now c.loop-index.index c.at-entry.result.now at
          c.loop-index.directories w.add.new.self (w.if-is_live.ensures.0 refl) here
          w.in_ok-add.ensures.others c.loop-index.invariant)
      | else-is_live w ↦
          rw w.directories-is (directories_stay c.args.entries.now c.loop-index.index c.at-entry.result.now at
          c.loop-index.directories (λ live. false≢true (w.if-is_live.ensures.1 live)) c.loop-index.invariant)
    ]

pub returns : goal.returns
returns c =
    let whole : take c.loop-index.index c.args.entries.now ≡ c.args.entries.now = grind (arith, common_steps) in
    rw whole at c.loop-index.invariant
