use Rattle.ficus_world.proofs.machines.Worlds.{one_is_final}
use Rattle.ficus_world.proofs.machines.laws.machines_are_lawful.Goals as goal

pub returns : goal.returns
returns c = λ volume W all machines sent one. (one.stands.lawful, one_is_final one)
