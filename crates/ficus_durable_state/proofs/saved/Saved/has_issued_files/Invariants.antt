use Rattle.std.proofs.Common.{take}
use Rattle.std.specs.Prelude.{All}
use Rattle.ficus_durable_state.specs.Saved.{IsFileOfPast}
use Rattle.ficus_durable_state.proofs.saved.Saved.has_issued_files.Given as goal

abbrev pub invariant-loop-index : goal.invariant-loop-index
invariant-loop-index l = All (IsFileOfPast l.self.me l.self.next) (take l.index l.files)
