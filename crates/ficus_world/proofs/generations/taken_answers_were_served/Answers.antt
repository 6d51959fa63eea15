use Rattle.ficus_world.proofs.TakenLists.{give_taken}
use Rattle.ficus_world.proofs.generations.taken_answers_were_served.Goals as goal

pub returns : goal.returns
returns g c = λ told disks_told start old new chain mail outcomes fresh moves.
    give_taken told disks_told chain fresh mail outcomes new moves
