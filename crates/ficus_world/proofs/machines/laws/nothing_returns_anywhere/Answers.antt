use Rattle.ficus_world.proofs.machines.Worlds.{nothing_returns}
use Rattle.ficus_world.proofs.machines.laws.nothing_returns_anywhere.Goals as goal

pub returns : goal.returns
returns c = λ volume W after told replica entry happens removed live. nothing_returns happens replica entry removed live
