use Rattle.ficus_world.proofs.machines.Worlds.{stay_one}
use Rattle.ficus_world.proofs.machines.laws.machines_stay_one_world.Goals as goal

pub returns : goal.returns
returns c = λ volume W all machines last sent last_sent told one together.
    stay_one (Unit {0}) (Unit {0}) tt tt volume together W all one
