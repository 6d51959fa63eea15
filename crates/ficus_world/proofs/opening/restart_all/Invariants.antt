use Rattle.std.proofs.Common.{◌≡◌, ◌+◌, ◌≤◌}
use Rattle.ficus_runs.specs.Start.{restarts}
use Rattle.ficus_world.proofs.opening.restart_all.Given as goal

abbrev pub invariant-loop-before : goal.invariant-loop-before
invariant-loop-before l = record {
  events : l.history.events ≡ restarts l.before;
  room : l.count ≤ l.history.room + l.before;
  few : l.count ≤ 8;
}
