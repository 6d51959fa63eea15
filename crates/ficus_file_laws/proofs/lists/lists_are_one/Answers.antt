use Rattle.ficus_file_laws.proofs.Listing.{one_list, conflict_of_list}
use Rattle.ficus_file_laws.proofs.Merging.{count_members}
use Rattle.ficus_file_laws.proofs.lists.lists_are_one.Goals as goal

pub returns-clause-one : goal.returns-clause-one
returns-clause-one c = λ H reader file versions others are are_too. one_list versions others are are_too

pub returns-clause-members : goal.returns-clause-members
returns-clause-members c = λ volume H reader file versions lawful are. count_members volume H versions lawful are

pub returns-clause-conflict : goal.returns-clause-conflict
returns-clause-conflict c = λ H reader file versions are. conflict_of_list versions are
