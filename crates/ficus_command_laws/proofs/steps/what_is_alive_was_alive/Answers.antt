use Rattle.ficus_command_laws.proofs.Idle.{was_alive}
use Rattle.ficus_command_laws.proofs.steps.what_is_alive_was_alive.Goals as goal

pub returns : goal.returns
returns c = was_alive
