use Rattle.ficus_ids.specs.declared.refusal.Refusal.TheVariants.{Stale}
use Rattle.ficus_runs.proofs.Pulls.{pull_refused}
use Rattle.ficus_runs.proofs.answers.pulls_are_never_stale.Goals as goal

pub returns : goal.returns
returns c = λ volume W by to left does. let asking = pull_refused volume W by to Stale left does in cc
