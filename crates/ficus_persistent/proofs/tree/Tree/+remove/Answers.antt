use Rattle.std.proofs.Common.{◌≡◌, ◌∙◌, arith}
use Rattle.std.proofs.lemmas.Result.{IfOk-weaker}
use Rattle.ficus_persistent.proofs.Rows.{remove_in}
use Rattle.ficus_persistent.specs.Shape.{joined}
use Rattle.ficus_persistent.proofs.tree.Tree.+remove.Goals as goal

pub returns-in_ok-row-in-Fork-clause-items : goal.returns-in_ok-row-in-Fork-clause-items
returns-in_ok-row-in-Fork-clause-items g t c =
    let row = c.as_slice-below.result.now in
    let whole : c.args.self.now.items ≡ joined row = grind arith in
    let place = c.locate-place in
    IfOk-weaker c.fork_or_one.result _ _
    (λ tree is. rw whole (is ∙ c.in_ok-row-in-Fork.ensures.items ∙
    remove_in row place.result.child c.index-below-place.result (grind arith) place.result.index c.args.index (grind arith)
    (grind arith) _ (grind arith))) c.fork_or_one.ensures.items
