use Rattle.ficus_final_laws.proofs.Finishing.{knows_all_of, use_known}
use Rattle.ficus_final_laws.proofs.done.done_is_known_to_all.Goals as goal

pub returns-clause-all : goal.returns-clause-all
returns-clause-all c = λ volume H replica position member object lawful done m. knows_all_of volume H lawful done m

pub returns-clause-uses : goal.returns-clause-uses
returns-clause-uses c = λ volume H replica position used object lawful done u. use_known volume H lawful done u
