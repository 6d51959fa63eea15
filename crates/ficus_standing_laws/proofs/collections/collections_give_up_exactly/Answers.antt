use Rattle.ficus_standing_laws.proofs.GivingUp.{entry_given_up, object_given_up}
use Rattle.ficus_standing_laws.proofs.collections.collections_give_up_exactly.Goals as goal

pub returns-clause-entries : goal.returns-clause-entries
returns-clause-entries c = entry_given_up

pub returns-clause-objects : goal.returns-clause-objects
returns-clause-objects c = object_given_up
