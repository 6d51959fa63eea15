use Rattle.std.proofs.Common.{◌∷◌, [], ◌++◌, take}
use Rattle.ficus_entry.specs.declared.entry.Entry.{Entry}
use Rattle.ficus_mentions.specs.Touched.{touched_by}
use Rattle.ficus_mentions.proofs.Marking.{touched_next}
use Rattle.ficus_mentions.proofs.touching.marks.Goals as goal

pub mark-requires-in-loop-index-clause-lengths : goal.mark-requires-in-loop-index-clause-lengths
mark-requires-in-loop-index-clause-lengths c =
    (c.mark.ensures (touched_by (take c.loop-index.index c.args.entries.now)) c.loop-index.invariant).lengths

pub loop-index-preserved : goal.loop-index-preserved
loop-index-preserved c =
    let entries = c.args.entries.now in
    let entry : Entry = c.at-entry.result.now in
    let before = touched_by (take c.loop-index.index entries) in
    rw (touched_next entries c.loop-index.index entry (rw (← c.in_ok-in_order.ensures) c.at-entry.ensures))
    (c.mark-in-loop-index.ensures (before ++ entry.target ∷ []) (c.mark.ensures before c.loop-index.invariant))
