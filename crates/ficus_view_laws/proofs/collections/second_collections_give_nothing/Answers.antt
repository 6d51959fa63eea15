use Rattle.ficus_view_laws.proofs.Collecting.{entry_stays, object_stays}
use Rattle.ficus_view_laws.proofs.collections.second_collections_give_nothing.Goals as goal

pub returns-clause-entries : goal.returns-clause-entries
returns-clause-entries c = λ members H replica entry is_member held. entry_stays members H replica is_member entry held

pub returns-clause-objects : goal.returns-clause-objects
returns-clause-objects c = λ members H replica object kind is_member held.
    object_stays members H replica is_member object kind held
