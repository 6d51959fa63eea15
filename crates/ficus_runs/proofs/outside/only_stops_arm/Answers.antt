use Rattle.ficus_runs.proofs.Arming.{step_unarming, run_arms}
use Rattle.ficus_runs.proofs.outside.only_stops_arm.Goals as goal

pub returns-clause-step : goal.returns-clause-step
returns-clause-step c = λ volume W after command outcomes answer r step no_stop. step_unarming r step no_stop

pub returns-clause-run : goal.returns-clause-run
returns-clause-run c = λ volume W after commands outcomes answers r run some. run_arms r run some
