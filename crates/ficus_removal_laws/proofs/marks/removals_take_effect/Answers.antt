use Rattle.ficus_removal_laws.proofs.Taking.{remove_live, live_remove, move_live, live_move, discard_live, live_discard}
use Rattle.ficus_removal_laws.proofs.marks.removals_take_effect.Goals as goal

pub returns-clause-remove : goal.returns-clause-remove
returns-clause-remove c = λ H replica entries target entry.
    (remove_live H replica entries target, live_remove H replica entries target)

pub returns-clause-moved : goal.returns-clause-moved
returns-clause-moved c = λ volume H replica entries dir name target entry lawful. (
  move_live volume H replica entries dir name target lawful,
  live_move volume H replica entries dir name target lawful,
)

pub returns-clause-discard : goal.returns-clause-discard
returns-clause-discard c = λ H replica file entry. (discard_live H replica file, live_discard H replica file)
