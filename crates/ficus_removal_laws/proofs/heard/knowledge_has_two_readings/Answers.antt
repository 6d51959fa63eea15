use Rattle.ficus_removal_laws.proofs.Hearing.{one_from_last, one_at_last, two_from_last, two_at_last}
use Rattle.ficus_removal_laws.proofs.heard.knowledge_has_two_readings.Goals as goal

pub returns-clause-one : goal.returns-clause-one
returns-clause-one c = λ H replica peer entry. (one_from_last, one_at_last)

pub returns-clause-two : goal.returns-clause-two
returns-clause-two c = λ members H replica peer entry. (two_from_last, two_at_last)
