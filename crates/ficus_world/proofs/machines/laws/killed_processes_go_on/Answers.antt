use Rattle.ficus_world.proofs.machines.Killed.{killed_goes_on}
use Rattle.ficus_world.proofs.machines.laws.killed_processes_go_on.Goals as goal

pub returns : goal.returns
returns c = killed_goes_on
