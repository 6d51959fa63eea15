use Rattle.ficus_runs.proofs.pieces.Saving.{none_since, saved_rest, saved_same}
use Rattle.ficus_runs.proofs.pieces.generations.generation_determines_saved.Goals as goal

pub returns-clause-kept : goal.returns-clause-kept
returns-clause-kept c = λ volume H later replica saved same is. saved_rest later H (none_since replica H later same) is

pub returns-clause-same : goal.returns-clause-same
returns-clause-same c = λ volume H replica one other saved again same is is_too. saved_same H one other same is is_too
