use Rattle.std.proofs.Common.{◌≡◌, ◌∙◌, arith, ap}
use Rattle.std.proofs.lemmas.Result.{IfOk-weaker}
use Rattle.ficus_persistent.proofs.Rows.{insert_in}
use Rattle.ficus_persistent.specs.Shape.{joined}
use Rattle.ficus_persistent.proofs.tree.Tree.+grown.Goals as goal

pub returns-in_ok-row-in-Fork-clause-items : goal.returns-in_ok-row-in-Fork-clause-items
returns-in_ok-row-in-Fork-clause-items g t c =
    let row = c.as_slice-below.result.now in
    let whole : c.args.self.now.items ≡ joined row = grind arith in
    let place = c.locate_gap-place in
    IfOk-weaker c.forks.result _ _
    (λ grown is. rw whole (is ∙ (ap joined c.in_ok-row-in-Fork.ensures ∙
    insert_in row place.result.child c.index-below-place.result (grind arith) place.result.index c.args.index (grind arith)
    (grind arith) _ c.args.item (grind arith)))) c.forks.ensures.items
