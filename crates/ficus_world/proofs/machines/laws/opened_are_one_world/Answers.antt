use Rattle.ficus_world.proofs.machines.Starting.{opened_are_one}
use Rattle.ficus_world.proofs.machines.laws.opened_are_one_world.Goals as goal

pub returns : goal.returns
returns c = opened_are_one
