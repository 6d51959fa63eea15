use Rattle.ficus_version_laws.proofs.Counting.{counts_once}
use Rattle.ficus_version_laws.proofs.Covering.{covered_from_cover, cover_from_covered}
use Rattle.ficus_version_laws.proofs.Fitting.{cover_fits}
use Rattle.ficus_version_laws.proofs.covers.covers_tell_pasts.Goals as goal

pub returns-clause-past : goal.returns-clause-past
returns-clause-past c = λ volume H replica file position vector cover lawful version vector_is cover_is. (
  covered_from_cover volume H lawful version vector_is cover_is,
  cover_from_covered volume H lawful version vector_is cover_is,
)

pub returns-clause-one : goal.returns-clause-one
returns-clause-one c = λ H reader file cover again d e replica. counts_once (d.counts replica) (e.counts replica)

pub returns-clause-within : goal.returns-clause-within
returns-clause-within c = λ H reader file cover counts replica. cover_fits counts replica
