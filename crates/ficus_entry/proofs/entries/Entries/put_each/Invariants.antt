use Rattle.std.proofs.Common.{take}
use Rattle.ficus_entry.specs.declared.entry.Entry.{Entry}
use Rattle.ficus_table.proofs.Replaced.{AreReplaced}
use Rattle.ficus_entry.proofs.entries.Entries.put_each.Given as goal

abbrev pub invariant-loop-other : goal.invariant-loop-other
invariant-loop-other l = AreReplaced (λ (e : Entry). e.id) l.fn.self (take l.other-index l.others) l.self
