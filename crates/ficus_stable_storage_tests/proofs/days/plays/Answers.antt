use Rattle.std.proofs.Common.{rules}
use Rattle.ficus_stable_storage_tests.proofs.days.plays.Goals as goal

pub saves_all-requires-clause-fits : goal.saves_all-requires-clause-fits
saves_all-requires-clause-fits g c = search rules

pub saves_all-requires-clause-ready : goal.saves_all-requires-clause-ready
saves_all-requires-clause-ready g c = search rules
