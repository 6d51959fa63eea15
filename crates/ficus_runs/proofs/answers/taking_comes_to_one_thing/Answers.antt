use Rattle.ficus_runs.proofs.Taking.{taken_below, taking_exists, taking_once}
use Rattle.ficus_runs.proofs.answers.taking_comes_to_one_thing.Goals as goal

pub returns-clause-one : goal.returns-clause-one
returns-clause-one c = λ volume H replica serve index pieces. taking_once volume H replica serve index pieces

pub returns-clause-some : goal.returns-clause-some
returns-clause-some c = λ volume H replica serve index member answer one below.
    taking_exists volume H replica serve index member answer one below

pub returns-clause-counted : goal.returns-clause-counted
returns-clause-counted c = λ volume H replica serve piece lawful answer one taken.
    taken_below volume H replica serve lawful answer one piece taken
