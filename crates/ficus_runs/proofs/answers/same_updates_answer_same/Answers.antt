use Rattle.ficus_runs.proofs.Agreement.{same_updates_answer}
use Rattle.ficus_runs.proofs.answers.same_updates_answer_same.Goals as goal

pub returns : goal.returns
returns c = λ volume H replica other look answer again same tells.
    same_updates_answer volume H replica other look same tells answer again
