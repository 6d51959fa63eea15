use Rattle.std.proofs.Common.{get_or, arith, subst}
use Rattle.std.specs.Prelude.{Contains}
use Rattle.std.proofs.lemmas.List.{get_or_default}
use Rattle.ficus_mentions.specs.Touched.{touched_by}
use borrow.Author.Count.{below_more}
use Rattle.ficus_mentions.proofs.touching.have_own_entries.Goals as goal

pub loop-id-preserved : goal.loop-id-preserved
loop-id-preserved c k d =
    let touched = touched_by c.args.entries.now in
    let ids = c.args.ids.now in
    let index = c.loop-id.id-index in
    below_more (λ i. Contains touched (get_or ids i d)) index (λ i before. c.loop-id.invariant i d before)
    (subst (Contains touched) (get_or_default ids index (record { replica = 0; number = 0 }) d c.loop-id-test.true)
    (c.has_own_entry.ensures c.if-not-has_own_entry.false)) k

pub returns : goal.returns
returns c is k d within = c.loop-id.invariant k d (omega arith)
