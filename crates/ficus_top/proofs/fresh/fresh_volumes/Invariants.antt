use Rattle.std.proofs.Common.{◌≡◌, length}
use Rattle.ficus_top.specs.Summary.Sized.{sized}
use Rattle.ficus_top.specs.Fresh.{AreFresh}
use Rattle.ficus_top.proofs.fresh.fresh_volumes.Given as goal

abbrev pub invariant-loop : goal.invariant-loop
invariant-loop l = record {
  count : length l.fresh.worlds.items ≡ l.counter;
  fresh : AreFresh (sized l.members l.ids l.bytes) l.fresh.worlds.items l.fresh.disks.items;
}
