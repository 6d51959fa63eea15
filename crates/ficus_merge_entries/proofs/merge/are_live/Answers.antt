use Rattle.std.proofs.Common.{◌≡◌, get_or, arith, subst, ◌∙◌}
use Rattle.std.proofs.lemmas.List.{get_or_default}
use Rattle.ficus_entry.specs.declared.entry.Entry.{Entry}
use Rattle.ficus_entry.specs.declared.entry.State.TheVariants.{Live}
use borrow.Author.Count.{below_more}
use Rattle.ficus_merge_entries.proofs.merge.are_live.Goals as goal

pub loop-row-preserved : goal.loop-row-preserved
loop-row-preserved c k d =
    let rows = c.args.rows.now in
    let index = c.loop-row.row-index in
    let row = c.row-item.result in
    let is : row ≡ get_or rows index d = c.row-item.is ∙ get_or_default rows index row d c.loop-row-test.true in
    below_more (λ i. (get_or rows i d).state ≡ Live) index (λ i before. c.loop-row.invariant i d before)
    (subst (λ (e : Entry). e.state ≡ Live) is
    (rw c.entry.ensures at (c.is_live.ensures.0 c.if-not-is_live.false))) k

pub returns : goal.returns
returns c is k d within = c.loop-row.invariant k d (omega arith)
