use Rattle.ficus_removal_laws.proofs.Carrying.{one_removed, all_one}
use Rattle.ficus_removal_laws.proofs.Hearing.{one_from_last, one_at_last, two_from_last, two_at_last, one_of_itself, two_of_itself}
use Rattle.ficus_removal_laws.proofs.heard.own_marks_follow.Goals as goal

pub returns-clause-one : goal.returns-clause-one
returns-clause-one c = λ H replica entry. (
  λ o. one_removed (one_from_last o),
  λ r. one_at_last (one_of_itself r),
)

pub returns-clause-two : goal.returns-clause-two
returns-clause-two c = λ members H replica entry is_member. (
  λ t member m. one_at_last (all_one (two_from_last t) m),
  λ each. two_at_last (two_of_itself is_member (λ member m. one_from_last (each member m))),
)
