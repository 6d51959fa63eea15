use Rattle.ficus_held_laws.proofs.Keeping.{kept_collected}
use Rattle.ficus_held_laws.proofs.Listing.{list_collected}
use Rattle.ficus_held_laws.proofs.entries.collect_drops_full_entries.Goals as goal

pub returns-clause-each : goal.returns-clause-each
returns-clause-each c = λ members H replica entry m. kept_collected members H replica m entry

pub returns-clause-list : goal.returns-clause-list
returns-clause-list c = λ members H replica entries left m kept are_left. list_collected m kept are_left
