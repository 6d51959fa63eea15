use Rattle.ficus_durable_state.specs.Saved.{FitsImage}
use Rattle.ficus_record_tests.proofs.steps.does_all.Given as goal

abbrev pub invariant-loop-command : goal.invariant-loop-command
invariant-loop-command l = FitsImage l.one.saved × FitsImage l.two.saved
