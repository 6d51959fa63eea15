use Rattle.std.proofs.Common.{◌≡◌, ◌≤◌, All, length}
use Rattle.ficus_disk.specs.Fresh.{IsFreshPair}
use Rattle.ficus_disk.proofs.fresh.fresh_disks.Given as goal

abbrev pub invariant-loop : goal.invariant-loop
invariant-loop l = record {
  within : l.counter ≤ 8;
  count : length l.disks.items ≡ l.counter;
  fresh : All IsFreshPair l.disks.items;
}
