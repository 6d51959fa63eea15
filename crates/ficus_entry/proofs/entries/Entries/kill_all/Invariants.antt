use Rattle.std.proofs.Common.{take}
use Rattle.ficus_entry.specs.Entry.{IsRising}
use Rattle.ficus_entry.specs.Kill.{AreKilled}
use Rattle.ficus_entry.proofs.entries.Entries.kill_all.Given as goal

abbrev pub invariant-loop-id : goal.invariant-loop-id
invariant-loop-id l = record {
  killed : AreKilled l.fn.self l.self (take l.id-index l.ids) l.fn.by;
  rising : IsRising l.self;
}
