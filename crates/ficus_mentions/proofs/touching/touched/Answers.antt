use Rattle.std.proofs.lemmas.Result.{IfOk-weaker}
use Rattle.ficus_mentions.proofs.Marking.{marked_are}
use Rattle.ficus_mentions.proofs.Own.{all_are}
use Rattle.ficus_mentions.proofs.touching.touched.Goals as goal

pub returns-then-are_few_with_own_entries-clause-touched : goal.returns-then-are_few_with_own_entries-clause-touched
returns-then-are_few_with_own_entries-clause-touched c =
    all_are _ c.args.ids.now c.in_ok-to_vec.field-0.items (c.in_ok-to_vec.ensures.items_if_clones_equal (λ x y is. is))
    (c.are_few_with_own_entries.ensures c.if-are_few_with_own_entries.true)

pub returns-clause-touched : goal.returns-clause-touched
returns-clause-touched c =
    IfOk-weaker c.marked.result _ _
    (λ kept is. marked_are kept.items c.in_ok-marks.ensures (rw c.deref.ensures.value at is)) c.marked.ensures.marked
