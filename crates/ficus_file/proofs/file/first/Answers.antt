use Rattle.std.proofs.Common.{◌≡◌, ap, arith, rules}
use Rattle.ficus_vectors.specs.Vector.{count_of}
use Rattle.ficus_vectors.specs.VectorLaws.{count_of-none}
use Rattle.ficus_file.proofs.file.first.Goals as goal

pub unreachable-requires : goal.unreachable-requires
unreachable-requires c =
    let full : count_of c.zero.result c.args.by ≡ 4294967295 = c.bump.ensures.none.0 (search rules) in
    let none = ap (λ v. count_of v c.args.by) c.zero.ensures in
    absurd (omega (arith, full, none, count_of-none c.args.by))
