use Rattle.ficus_ids.specs.KindLaws.{fixed_file}
use Rattle.ficus_version_laws.proofs.Links.{fixed_stays, never_in_conflict, never_orphan}
use Rattle.ficus_version_laws.proofs.orphans.links_stay.Goals as goal

pub returns-clause-settled : goal.returns-clause-settled
returns-clause-settled c = λ volume H replica object kind lawful fixed made conflict.
    never_in_conflict volume H lawful (fixed_stays kind fixed) made conflict

pub returns-clause-kept : goal.returns-clause-kept
returns-clause-kept c = λ volume H replica object kind lawful fixed made orphan.
    never_orphan volume H lawful (fixed_stays kind fixed) made (fixed_file fixed) orphan
