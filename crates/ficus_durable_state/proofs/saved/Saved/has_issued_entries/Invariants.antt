use Rattle.std.proofs.Common.{take}
use Rattle.std.specs.Prelude.{All}
use Rattle.ficus_durable_state.specs.Saved.{IsEntryOfPast}
use Rattle.ficus_durable_state.proofs.saved.Saved.has_issued_entries.Given as goal

abbrev pub invariant-loop-index : goal.invariant-loop-index
invariant-loop-index l = All (IsEntryOfPast l.self.me l.self.next) (take l.index l.entries)
