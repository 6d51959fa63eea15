use Rattle.ficus_durable_state.specs.Saved.{FitsImage}
use Rattle.ficus_replica_tests.proofs.scenes.happen.Given as goal

abbrev pub invariant-loop-step : goal.invariant-loop-step
invariant-loop-step l = FitsImage l.one.saved × FitsImage l.two.saved
