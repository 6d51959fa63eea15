use Rattle.ficus_held_laws.proofs.Standing.{kept_same, same_entry_back, others_same_entry}
use Rattle.ficus_held_laws.proofs.Listing.{list_kept}
use Rattle.ficus_held_laws.proofs.entries.others_keep_entries.Goals as goal

pub returns-clause-each : goal.returns-clause-each
returns-clause-each c = λ members H event replica entry m other.
    let same = others_same_entry members H event replica entry.id m other in
    (kept_same same, kept_same (same_entry_back same))

pub returns-clause-list : goal.returns-clause-list
returns-clause-list c = λ members H event replica entries m other kept. list_kept event m other kept
