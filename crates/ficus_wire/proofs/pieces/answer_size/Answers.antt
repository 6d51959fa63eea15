use Rattle.std.proofs.Common.{arith}
use Rattle.ficus_wire.proofs.Sizes.{all_sizes}
use Rattle.ficus_wire.proofs.pieces.answer_size.Goals as goal

pub returns : goal.returns
returns c = λ server asker number state.
    omega (arith, all_sizes server asker number state c.args.tables.now, c.piece_count.ensures)
