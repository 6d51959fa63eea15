use Rattle.ficus_view_laws.proofs.CutOff.{lies_in_detached, lies_in_no_other}
use Rattle.ficus_view_laws.proofs.detached.detached_lie_in_detached.Goals as goal

pub returns-clause-some : goal.returns-clause-some
returns-clause-some c = λ volume H replica dir lawful detached. lies_in_detached volume H replica lawful dir detached

pub returns-clause-each : goal.returns-clause-each
returns-clause-each c = λ volume H replica dir parent name lawful detached bound.
    lies_in_no_other volume H replica lawful dir detached parent name bound
