use Rattle.ficus_mentions.proofs.Kept.{AreKeptSoFar}
use Rattle.ficus_entry.specs.declared.entry.Entry.{Entry}
use Rattle.ficus_collection.proofs.Left.{HoldsKnown}
use Rattle.ficus_collection.proofs.known.fully_known.Given as goal

abbrev pub invariant-loop-index : goal.invariant-loop-index
invariant-loop-index l =
    AreKeptSoFar (λ (entry : Entry). entry.id) (HoldsKnown l.fn.members l.fn.entries) l.fn.entries l.index l.ids.items
