use Rattle.std.proofs.Common.{drop}
use Rattle.ficus_entry.specs.Place.{AreNotedBut}
use Rattle.ficus_entry.proofs.entries.Entries.folded.Given as goal

abbrev pub invariant-loop-place : goal.invariant-loop-place
invariant-loop-place l = AreNotedBut l.self-inside.table.items (drop l.place l.self-inside.table.edited) l.index
