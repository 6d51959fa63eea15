use Rattle.ficus_world.proofs.machines.Processes.{one_behind}
use Rattle.ficus_world.proofs.machines.laws.runs_join.Goals as goal

pub returns : goal.returns
returns c = λ machines middle last sent mid_sent last_sent told more together behind. one_behind together behind
