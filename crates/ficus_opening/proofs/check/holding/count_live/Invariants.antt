use Rattle.std.proofs.Common.{◌≡◌, ◌≤◌, length, take}
use Rattle.std.specs.Prelude.{count_by}
use Rattle.ficus_entry.specs.Kill.{is_live}
use Rattle.ficus_opening.proofs.check.holding.count_live.Given as goal

abbrev pub invariant-loop-index : goal.invariant-loop-index
invariant-loop-index l = record {
  within : l.index ≤ length l.entries;
  counted : l.count ≡ count_by is_live (take l.index l.entries);
}
