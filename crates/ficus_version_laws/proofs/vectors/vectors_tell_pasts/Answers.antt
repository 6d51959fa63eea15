use Rattle.ficus_version_laws.proofs.Comparing.{compare_as_pasts, own_count_past, past_own_count}
use Rattle.ficus_version_laws.proofs.vectors.vectors_tell_pasts.Goals as goal

pub returns-clause-all : goal.returns-clause-all
returns-clause-all c = λ volume H file position other vector again lawful version version_too counts counts_too. compare_as_pasts
    volume H lawful file version version_too counts counts_too

pub returns-clause-own : goal.returns-clause-own
returns-clause-own c = λ H file position other replica vector again version version_too own counts counts_too. (
  own_count_past version version_too own counts counts_too,
  past_own_count version version_too counts counts_too,
)
