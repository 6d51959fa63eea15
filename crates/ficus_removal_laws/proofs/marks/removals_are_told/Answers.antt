use Rattle.ficus_removal_laws.proofs.Hearing.{one_from_last}
use Rattle.ficus_removal_laws.proofs.Removing.{removal_known, removed_entered}
use Rattle.ficus_removal_laws.proofs.marks.removals_are_told.Goals as goal

pub returns-clause-entered : goal.returns-clause-entered
returns-clause-entered c = λ volume H replica entry. removed_entered volume H

pub returns-clause-known : goal.returns-clause-known
returns-clause-known c = λ volume H replica position number entry op lawful update removes o.
    removal_known volume H lawful update removes (one_from_last o)
