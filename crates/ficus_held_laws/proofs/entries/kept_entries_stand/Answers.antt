use Rattle.ficus_held_laws.proofs.Standing.{kept_once}
use Rattle.ficus_held_laws.proofs.Keeping.{kept_listed}
use Rattle.ficus_held_laws.proofs.Listing.{no_entries}
use Rattle.ficus_held_laws.proofs.entries.kept_entries_stand.Goals as goal

pub returns-clause-undropped : goal.returns-clause-undropped
returns-clause-undropped c = λ members H replica entry k d. k.held.held d

pub returns-clause-one : goal.returns-clause-one
returns-clause-one c = λ members H replica entry other k l same. kept_once k l same

pub returns-clause-whole : goal.returns-clause-whole
returns-clause-whole c = λ members H replica entries entry kept. (kept.each entry, kept_listed kept)

pub returns-clause-start : goal.returns-clause-start
returns-clause-start c = no_entries
