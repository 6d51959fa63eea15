use Rattle.ficus_held_laws.proofs.Stepping.{update_steps}
use Rattle.ficus_held_laws.proofs.Listing.{list_stepped}
use Rattle.ficus_held_laws.proofs.entries.update_steps_entries.Goals as goal

pub returns-clause-each : goal.returns-clause-each
returns-clause-each c = λ volume H replica op entry several lawful. update_steps volume H replica op lawful several entry

pub returns-clause-list : goal.returns-clause-list
returns-clause-list c = λ volume H replica op entries next several lawful kept steps.
    list_stepped volume H replica op several lawful kept steps
