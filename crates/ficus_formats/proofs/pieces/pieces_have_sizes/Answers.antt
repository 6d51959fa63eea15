use Rattle.ficus_formats.proofs.Joining.{has_size, ends}
use Rattle.ficus_formats.proofs.pieces.pieces_have_sizes.Goals as goal

pub returns-clause-sizes : goal.returns-clause-sizes
returns-clause-sizes c = λ bytes index below. has_size bytes index below

pub returns-clause-end : goal.returns-clause-end
returns-clause-end c = λ bytes index is. ends bytes index is
