use Rattle.ficus_world.proofs.ServedLists.{equal_lists, served_same}
use Rattle.ficus_world.proofs.generations.equal_generations_are_equal_lists.Goals as goal

pub returns-clause-lists : goal.returns-clause-lists
returns-clause-lists g c =
    λ told start now chain sound from state to ask pieces index bytes saved other_to other_ask others other other_bytes
    again one two.
    served_same told chain sound from state to ask pieces index bytes saved other_to other_ask others other other_bytes
    again one two

pub returns-clause-pieces : goal.returns-clause-pieces
returns-clause-pieces g c = λ told disks_told start now chain sound none.
    equal_lists told disks_told chain sound none
