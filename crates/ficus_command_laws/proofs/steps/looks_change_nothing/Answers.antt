use Rattle.ficus_command_laws.proofs.Idle.{looks_change_nothing}
use Rattle.ficus_command_laws.proofs.steps.looks_change_nothing.Goals as goal

pub returns : goal.returns
returns c = looks_change_nothing
