use Rattle.ficus_standing_laws.proofs.GivingUp.{second_gives_nothing}
use Rattle.ficus_standing_laws.proofs.collections.second_collections_give_nothing.Goals as goal

pub returns : goal.returns
returns c = second_gives_nothing
