use Rattle.ficus_runs.proofs.Agreement.{same_updates_alike}
use Rattle.ficus_runs.proofs.answers.same_updates_are_alike.Goals as goal

pub returns : goal.returns
returns c = λ volume H replica other same. same_updates_alike volume H replica other same
