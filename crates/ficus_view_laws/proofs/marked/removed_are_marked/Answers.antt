use Rattle.ficus_entry.specs.declared.entry.State.TheVariants.{Dead}
use Rattle.ficus_held_laws.proofs.Standing.{one_state}
use Rattle.ficus_view_laws.proofs.Knowledge.{marked_exists}
use Rattle.ficus_view_laws.proofs.marked.removed_are_marked.Goals as goal

pub returns-clause-held : goal.returns-clause-held
returns-clause-held c = λ members H replica id one two marked dropped. marked.held dropped

pub returns-clause-one : goal.returns-clause-one
returns-clause-one c = λ members H replica id one two first second marked marked_too.
    let same = one_state members H replica id (Dead one two) (Dead first second) marked marked_too in (cc, cc)

pub returns-clause-all : goal.returns-clause-all
returns-clause-all c = λ volume H replica entry lawful held removed.
    marked_exists volume H replica entry.id lawful
    (record { entry = entry; entered = held.entered; named = λ i. entry.id }) removed held.held
