use Rattle.ficus_command_laws.proofs.Collecting.{second_collects_nothing}
use Rattle.ficus_command_laws.proofs.steps.second_collects_nothing.Goals as goal

pub returns : goal.returns
returns c = second_collects_nothing
