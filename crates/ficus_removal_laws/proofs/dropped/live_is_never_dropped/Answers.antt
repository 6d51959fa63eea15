use Rattle.ficus_removal_laws.proofs.Hearing.{one_at_last}
use Rattle.ficus_removal_laws.proofs.Dropping.{dropped_one, dropped_removed}
use Rattle.ficus_removal_laws.proofs.dropped.live_is_never_dropped.Goals as goal

pub returns-clause-live : goal.returns-clause-live
returns-clause-live c = λ members H replica member entry live m d. live.not_removed (dropped_removed d m)

pub returns-clause-unmarked : goal.returns-clause-unmarked
returns-clause-unmarked c = λ members H replica member peer entry m p none d. none (one_at_last (dropped_one d m p))
