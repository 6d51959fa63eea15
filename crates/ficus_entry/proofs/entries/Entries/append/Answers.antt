use Rattle.std.proofs.Common.{rules, refl}
use Rattle.ficus_entry.proofs.entries.Entries.append.Goals as goal

pub same-self-in_err-shared : goal.same-self-in_err-shared
same-self-in_err-shared c = refl

pub invariant_of-self : goal.invariant_of-self
invariant_of-self c = rw c.in_err-append.ensures.kept c.self.invariant

pub invariant_of-self-2 : goal.invariant_of-self-2
invariant_of-self-2 c = search rules
