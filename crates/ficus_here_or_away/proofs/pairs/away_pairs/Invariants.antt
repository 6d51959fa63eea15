use Rattle.std.proofs.Common.{◌≡◌, ◌≤◌, All, length}
use Rattle.ficus_here_or_away.specs.Pairs.{IsAwayPair}
use Rattle.ficus_here_or_away.proofs.pairs.away_pairs.Given as goal

abbrev pub invariant-loop : goal.invariant-loop
invariant-loop g l = record {
  within : l.counter ≤ 8;
  count : length l.pairs.items ≡ l.counter;
  away : All IsAwayPair l.pairs.items;
}
