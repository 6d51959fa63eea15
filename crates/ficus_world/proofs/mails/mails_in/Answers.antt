use Rattle.std.proofs.Common.{◌+◌, ◌-◌, ◌≤◌, length, subst, arith}
use Rattle.std.proofs.lemmas.List.FromFn.{length-range_with_len}
use Rattle.ficus_script.specs.declared.answer.Answer.{Answer}
use Rattle.ficus_runs.specs.Exchange.{mails_of}
use Rattle.ficus_wire.specs.Message.{piece_limit}
use Rattle.ficus_world.proofs.mails.mails_in.Goals as goal

pub overflow_add-result : goal.overflow_add-result
overflow_add-result c =
    let few = subst (λ (a : Answer). length (mails_of a) ≤ piece_limit) c.in-Mails.is c.requires in
    omega (arith, few, length-range_with_len c.in-Mails.first (c.in-Mails.last + 1 - c.in-Mails.first), c.if-first-last.true)

pub returns-in-Mails-clause-few : goal.returns-in-Mails-clause-few
returns-in-Mails-clause-few c =
    let few = subst (λ (a : Answer). length (mails_of a) ≤ piece_limit) c.in-Mails.is c.requires in
    omega (arith, few, length-range_with_len c.in-Mails.first (c.in-Mails.last + 1 - c.in-Mails.first), c.if-first-last.true)
