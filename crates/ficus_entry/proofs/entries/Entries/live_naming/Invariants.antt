use Rattle.std.proofs.Common.{ℕ, ◌<◌, get_or}
use Rattle.ficus_entry.specs.declared.entry.Entry.{Entry}
use Rattle.ficus_entry.specs.Inside.{IsNameFor}
use Rattle.ficus_entry.proofs.entries.Entries.live_naming.Given as goal

abbrev pub invariant-loop-index : goal.invariant-loop-index
invariant-loop-index l = (k : ℕ) (d : Entry) → k < l.index → IsNameFor (get_or l.self k d) l.fn.target → ⊥
