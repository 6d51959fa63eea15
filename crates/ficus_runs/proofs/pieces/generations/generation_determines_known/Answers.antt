use Rattle.ficus_runs.proofs.pieces.Saving.{knows_since}
use Rattle.ficus_runs.proofs.pieces.generations.generation_determines_known.Goals as goal

pub returns : goal.returns
returns c = λ H later replica position same. knows_since H later replica position same
