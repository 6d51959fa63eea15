use Rattle.ficus_runs.proofs.pieces.Mixing.{mixed_join}
use Rattle.ficus_runs.proofs.pieces.taking.pieces_may_be_mixed.Goals as goal

pub returns : goal.returns
returns c = λ spelling volume H server served saved pieces is count each.
    mixed_join spelling volume H server served saved pieces is count each
