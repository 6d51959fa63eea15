use Rattle.std.proofs.Common.{◌*◌, drop, length-drop, arith}
use Rattle.ficus_formats.proofs.Joining.{below_reaches}
use Rattle.ficus_wire.proofs.Cutting.{same_front}
use Rattle.ficus_wire.proofs.pieces.piece_at.Goals as goal

pub returns : goal.returns
returns c =
    let rest = length-drop (c.args.index * 4096) c.args.bytes.now in
    let some = below_reaches c.args.bytes.now c.args.index c.requires in
    same_front (drop (c.args.index * 4096) c.args.bytes.now) _ 4096 (omega (arith, c.min-end.ensures, some))
    (λ less. omega (arith, c.min-end.ensures, rest, some, less))
