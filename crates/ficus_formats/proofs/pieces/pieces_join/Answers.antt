use Rattle.ficus_formats.proofs.Joining.{joins}
use Rattle.ficus_formats.proofs.pieces.pieces_join.Goals as goal

pub returns : goal.returns
returns c = λ bytes pieces are. joins bytes pieces are
