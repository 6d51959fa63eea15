use Rattle.std.proofs.Common.{rules, refl, inl, inr, ap, subst}
use Rattle.ficus_faults.specs.Calls.{IsNextListed}
use Rattle.ficus_mailbox.specs.MemMailbox.{MailboxState}
use Rattle.ficus_mailbox.proofs.mem_mailbox.MemMailboxMailbox.put.Goals as goal
use Rattle.ficus_mailbox.proofs.mem_mailbox.MemMailboxMailbox.put.Goals.{then-listed-via-then-listed, then-listed-via-else-listed+then-lacks_room}

pub returns-then-listed-clause-fails : goal.returns-then-listed-clause-fails
returns-then-listed-clause-fails c =
    let same = ap (λ (state : MailboxState). state.calls) c.self.view_is in
    elim c.then-listed.branch [
      | then-listed-via-then-listed w ↦
          (λ _. inl (subst IsNextListed same (c.next-listed.ensures.listed.0 w.if-listed.true)), λ _. refl)
      | then-listed-via-else-listed+then-lacks_room w ↦
          (λ _. inr (search (rules, w.lacks_room.ensures.0 w.if-lacks_room.true)), λ _. refl)
    ]
