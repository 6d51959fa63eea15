use Rattle.std.proofs.Common.{refl}
use Rattle.ficus_vectors.specs.VectorLaws.{equal_by_covers}
use Rattle.ficus_vectors.proofs.vector.Vector.compare.Goals as goal

pub returns-in-true-true-clause-equal : goal.returns-in-true-true-clause-equal
returns-in-true-true-clause-equal c =
    (λ _. equal_by_covers c.args.self c.args.other (c.in-true-true.ensures.0 refl) (c.in-true-true.ensures'.0 refl), λ _. refl)

pub returns-in-true-true-clause-under : goal.returns-in-true-true-clause-under
returns-in-true-true-clause-under c =
    (λ is. absurd cc, λ over. absurd (over.differ (equal_by_covers c.args.other c.args.self (c.in-true-true.ensures'.0 refl) (c.in-true-true.ensures.0 refl))))

pub returns-in-true-true-clause-over : goal.returns-in-true-true-clause-over
returns-in-true-true-clause-over c =
    (λ is. absurd cc, λ over. absurd (over.differ (equal_by_covers c.args.self c.args.other (c.in-true-true.ensures.0 refl) (c.in-true-true.ensures'.0 refl))))
