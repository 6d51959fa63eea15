use Rattle.ficus_laws.proofs.Positions.{agree_back, agree_more}
use Rattle.ficus_version_laws.proofs.Counting.{counts_once}
use Rattle.ficus_version_laws.proofs.Comparing.{agree_vector}
use Rattle.ficus_version_laws.proofs.Fitting.{vector_fits}
use Rattle.ficus_version_laws.proofs.vectors.vectors_stay.Goals as goal

pub returns-clause-same : goal.returns-clause-same
returns-clause-same c = λ H later file position vector within. (
  agree_vector (agree_more H later) within,
  agree_vector (agree_back (agree_more H later)) within,
)

pub returns-clause-one : goal.returns-clause-one
returns-clause-one c = λ H file position vector again v w replica. counts_once (v.counts replica) (w.counts replica)

pub returns-clause-within : goal.returns-clause-within
returns-clause-within c = λ H file position vector counts replica. vector_fits counts replica
