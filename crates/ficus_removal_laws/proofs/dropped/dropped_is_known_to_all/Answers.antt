use Rattle.ficus_removal_laws.proofs.Hearing.{one_at_last, two_at_last}
use Rattle.ficus_removal_laws.proofs.Dropping.{dropped_two, dropped_one, dropped_removed}
use Rattle.ficus_removal_laws.proofs.dropped.dropped_is_known_to_all.Goals as goal

pub returns-clause-two : goal.returns-clause-two
returns-clause-two c = λ members H replica entry d member m. two_at_last (dropped_two d m)

pub returns-clause-one : goal.returns-clause-one
returns-clause-one c = λ members H replica member entry d m peer p. one_at_last (dropped_one d m p)

pub returns-clause-removed : goal.returns-clause-removed
returns-clause-removed c = λ members H replica member entry d m. dropped_removed d m
