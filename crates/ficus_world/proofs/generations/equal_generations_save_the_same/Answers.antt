use Rattle.ficus_world.proofs.Ages.{saves_later}
use Rattle.ficus_world.proofs.generations.equal_generations_save_the_same.Goals as goal

pub returns-clause-risen : goal.returns-clause-risen
returns-clause-risen g c = λ told start one other r was now sound first second had has.
    (saves_later told sound first second had has).risen

pub returns-clause-same : goal.returns-clause-same
returns-clause-same g c = λ told start one other r was now sound first second had has.
    (saves_later told sound first second had has).same
