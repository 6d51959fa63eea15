use Rattle.ficus_world.proofs.machines.Names.{message_once}
use Rattle.ficus_world.proofs.machines.laws.one_message_of_a_name.Goals as goal

pub returns : goal.returns
returns c = λ volume W position other index again one two lawful serves since since_too at at_too named.
    message_once volume W lawful serves position other index again since since_too one two at at_too named
