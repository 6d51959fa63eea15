use Rattle.std.proofs.Common.{◌≡◌, ap, arith, rules}
use Rattle.ficus_vectors.specs.Vector.{count_of, bump}
use Rattle.ficus_file.proofs.Joined.{joined_from_none}
use Rattle.ficus_file.proofs.file.FileReplica.advanced.Goals as goal

pub unreachable-requires : goal.unreachable-requires
unreachable-requires c =
    let is = joined_from_none c.args.self.now.versions c.items.result.now c.zero.result c.joined.result c.joined.ensures c.zero.ensures c.items.ensures in
    let full : count_of c.joined.result c.args.by ≡ 4294967295 = c.bump.ensures.none.0 (search rules) in
    let same = ap (λ v. count_of v c.args.by) is in
    absurd (omega (arith, full, same, c.requires.may.room))

pub returns-clause-advanced : goal.returns-clause-advanced
returns-clause-advanced c =
    let is = joined_from_none c.args.self.now.versions c.items.result.now c.zero.result c.joined.result c.joined.ensures c.zero.ensures c.items.ensures in
    let bumped : c.in-Some.vector ≡ bump c.args.by c.joined.result = search rules in
    rw (c.one.ensures, bumped, is) (search rules)
