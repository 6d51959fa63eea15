use Rattle.ficus_world.proofs.Lifting.OneWorld.{world_once}
use Rattle.ficus_world.proofs.laws.one_world.Goals as goal

pub returns : goal.returns
returns c = λ volume W one other stands stands_too stored faults.
    world_once volume W one other stands stands_too stored faults
