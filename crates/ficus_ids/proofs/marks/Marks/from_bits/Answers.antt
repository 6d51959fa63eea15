use Rattle.std.proofs.Common.{refl}
use Rattle.ficus_ids.proofs.Masks.{members_by_mask}
use Rattle.ficus_ids.proofs.marks.Marks.from_bits.Goals as goal

pub returns-then-bits-all-clause-members : goal.returns-then-bits-all-clause-members
returns-then-bits-all-clause-members c =
    let only = members_by_mask c.args.bits c.args.members c.count.ensures.valid.at_most in
    let kept = rw c.count.ensures.value at c.if-bits-all.true in
    (λ _. only.0 kept, λ _. refl)

pub returns-else-bits-all-clause-members : goal.returns-else-bits-all-clause-members
returns-else-bits-all-clause-members c =
    let only = members_by_mask c.args.bits c.args.members c.count.ensures.valid.at_most in
    let kept = rw c.count.ensures.value at c.if-bits-all.false in
    (λ none. cc, λ members. absurd (kept (only.1 members)))
