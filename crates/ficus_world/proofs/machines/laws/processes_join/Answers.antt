use Rattle.ficus_world.proofs.machines.Processes.{alone_together}
use Rattle.ficus_world.proofs.machines.laws.processes_join.Goals as goal

pub returns : goal.returns
returns c = λ r machine after came posted told machines sent alone is genuine. alone_together alone machines sent is genuine
