use Rattle.std.proofs.Common.{◌≡◌, Ok, Err, refl, ap, subst, ◌∙◌}
use Rattle.std.proofs.lemmas.Result.{err_from_is_err_and}
use Rattle.ficus_world.specs.Hearing.{Awaits}
use Rattle.ficus_machine.specs.Answers.{refused}
use Rattle.ficus_machine.specs.Machine.{MachineState}
use Rattle.ficus_ids.specs.declared.refusal.Refusal.TheVariants as refusal
use Rattle.ficus_member_script.specs.declared.member_answer.MemberAnswer.TheVariants.{Plain}
use Rattle.ficus_script.specs.declared.answer.Answer.TheVariants.{Done}
use Rattle.ficus_machine.specs.declared.fault.Halt.TheVariants as halt
use Rattle.ficus_machine.specs.declared.fault.LineFault.TheVariants.{Memory, Note}
use Rattle.ficus_machine.proofs.Lived.{lives_same}
use Rattle.ficus_machine.proofs.Taken.{lives_finished, lives_unnoted, open_noted}
use Rattle.ficus_machine.proofs.TakenAnswers.{gathered, gathered_at, gathers_at, halted, lives_hindered, lives_hindered_fault, take_hindered, take_hindered_fault, take_memory, take_refused, take_taken, take_unnoted, take_unsaved, undoes_at, undone_at}
use Rattle.ficus_machine.proofs.machine.Machine.take_answer.Goals as goal

pub gather-requires-clause-noted : goal.gather-requires-clause-noted
gather-requires-clause-noted g c =
    open_noted c.args.self.now.world.whole c.args.self.now.me c.args.self.now.note.asked c.requires.rest.noted

pub gather-requires-clause-waits : goal.gather-requires-clause-waits
gather-requires-clause-waits g c =
    subst (Awaits c.args.self.now.world.whole c.args.self.now.me) c.in-Ok.ensures.asked c.in-Ok.ensures.awaits

pub returns-in-Err-clause-lives : goal.returns-in-Err-clause-lives
returns-in-Err-clause-lives g c =
    lives_same g.K.Keep g.D.Disk g.N.Disk _ c.args.self.now c.args.self.now c.args.disks.now.items
    c.args.disks.now.items c.args.slots.now c.args.slots.now refl refl refl refl

pub returns-in-Ok-gather-clause-lives : goal.returns-in-Ok-gather-clause-lives
returns-in-Ok-gather-clause-lives g c =
    lives_finished g.K.Keep g.D.Disk g.N.Disk (Ok (Plain Done)) c.finish.result c.args.self.now c.gather.new.self
    c.finish.new.self c.args.disks.now.items c.gather.new.disks.items c.args.slots.now c.gather.new.slots
    c.finish.new.slots c.gather.ensures.gathers.same.me c.finish.ensures.finishes
    (gathered ≡ Err halt.Note → ⊥) (λ never. cc) (gathered_at c.in-Ok-gather.is c.gather.ensures.lives) c.finish.ensures.notes

pub returns-in-Store-clause-lives : goal.returns-in-Store-clause-lives
returns-in-Store-clause-lives g c =
    lives_finished g.K.Keep g.D.Disk g.N.Disk (Ok c.refused-in-Store.result) c.finish-in-Store.result c.args.self.now c.gather.new.self
    c.finish-in-Store.new.self c.args.disks.now.items c.gather.new.disks.items c.args.slots.now c.gather.new.slots
    c.finish-in-Store.new.slots c.gather.ensures.gathers.same.me c.finish-in-Store.ensures.finishes
    (halted (halt.Refused refusal.Store) ≡ Err halt.Note → ⊥) (λ never. cc) (gathered_at (c.in-Err-Refused.is ∙ ap Err c.in-Err-Refused.field-0-is ∙ ap (λ r. Err (halt.Refused r)) c.in-Store.is) c.gather.ensures.lives) c.finish-in-Store.ensures.notes

pub returns-in_err-undo-in_default-clause-lives : goal.returns-in_err-undo-in_default-clause-lives
returns-in_err-undo-in_default-clause-lives g c =
    let given = err_from_is_err_and c.from_residual.result c.from_residual.ensures.1 in
    rw (given.1, given.2)
    (lives_hindered_fault g.K.Keep g.D.Disk g.N.Disk g.M.Mailbox c.args.piece.head c.args.self.now c.args.disks.now.items
    c.args.slots.now c.args.mailbox.now c.requires.rest c.in-Ok.asked c.in-Ok.ensures.asked c.in-Ok.ensures.awaits
    c.gather.new.self c.undo.new.self c.gather.new.disks.items c.gather.new.slots c.undo.new.slots c.gather.new.mailbox
    c.in-Err-Refused.refusal
    (gathers_at (c.in-Err-Refused.is ∙ ap Err c.in-Err-Refused.field-0-is) c.gather.ensures.gathers)
    c.in_default.not-Store c.in_err-undo-in_default.field-0.0
    (undoes_at (c.asked-noted.ensures ∙ ap (λ (m : MachineState g.row.K.Denot). m.note.asked) c.self.view_is)
    c.in_err-undo-in_default.was c.undo.ensures.undoes)
    (gathered_at (c.in-Err-Refused.is ∙ ap Err c.in-Err-Refused.field-0-is) c.gather.ensures.lives)
    (undone_at c.in_err-undo-in_default.was c.undo.ensures.notes))

pub returns-in-Err-Refused-clause-lives : goal.returns-in-Err-Refused-clause-lives
returns-in-Err-Refused-clause-lives g c =
    lives_hindered g.K.Keep g.D.Disk g.N.Disk g.M.Mailbox c.args.piece.head c.args.self.now c.args.disks.now.items
    c.args.slots.now c.args.mailbox.now c.requires.rest c.in-Ok.asked c.in-Ok.ensures.asked c.in-Ok.ensures.awaits
    c.gather.new.self c.undo.new.self c.gather.new.disks.items c.gather.new.slots c.undo.new.slots c.gather.new.mailbox
    c.in-Err-Refused.refusal
    (gathers_at (c.in-Err-Refused.is ∙ ap Err c.in-Err-Refused.field-0-is) c.gather.ensures.gathers)
    c.in_default.not-Store c.refused-in_default.result
    (undoes_at (c.asked-noted.ensures ∙ ap (λ (m : MachineState g.row.K.Denot). m.note.asked) c.self.view_is)
    c.in_ok-undo-in_default.was c.undo.ensures.undoes)
    (gathered_at (c.in-Err-Refused.is ∙ ap Err c.in-Err-Refused.field-0-is) c.gather.ensures.lives)
    (undone_at c.in_ok-undo-in_default.was c.undo.ensures.notes)

pub returns-in-Err-Memory-clause-lives : goal.returns-in-Err-Memory-clause-lives
returns-in-Err-Memory-clause-lives g c =
    lives_finished g.K.Keep g.D.Disk g.N.Disk (Err Memory) c.finish-in-Err-Memory.result c.args.self.now c.gather.new.self
    c.finish-in-Err-Memory.new.self c.args.disks.now.items c.gather.new.disks.items c.args.slots.now c.gather.new.slots
    c.finish-in-Err-Memory.new.slots c.gather.ensures.gathers.same.me c.finish-in-Err-Memory.ensures.finishes
    (halted halt.Memory ≡ Err halt.Note → ⊥) (λ never. cc) (gathered_at (c.in-Err-Memory.is ∙ ap Err c.in-Err-Memory.field-0-is) c.gather.ensures.lives) c.finish-in-Err-Memory.ensures.notes

pub returns-clause-lives : goal.returns-clause-lives
returns-clause-lives g c =
    lives_unnoted g.K.Keep g.D.Disk g.N.Disk (Err Note) c.finish-in-Err-Note.result c.args.self.now c.gather.new.self
    c.finish-in-Err-Note.new.self c.args.disks.now.items c.gather.new.disks.items c.args.slots.now c.gather.new.slots
    c.finish-in-Err-Note.new.slots c.gather.ensures.gathers.same.me c.finish-in-Err-Note.ensures.finishes
    (c.gather.result ≡ Err halt.Note → ⊥) refl c.gather.ensures.lives

pub returns-in-Err-clause-goes : goal.returns-in-Err-clause-goes
returns-in-Err-clause-goes g c =
    take_refused g.K.Keep g.D.Disk g.N.Disk g.M.Mailbox c.args.piece.head c.args.self.now c.args.disks.now.items
    c.args.slots.now c.args.mailbox.now c.requires.rest c.in-Err.refusal c.in-Err.ensures.one (λ is. c.in-Err.ensures.down (ap Err is))
    (λ is. c.in-Err.ensures.stale (ap Err is)) c.refused.result c.refused.ensures

pub returns-in-Ok-gather-clause-goes : goal.returns-in-Ok-gather-clause-goes
returns-in-Ok-gather-clause-goes g c =
    take_taken g.K.Keep g.D.Disk g.N.Disk g.M.Mailbox c.args.piece.head c.args.self.now c.args.disks.now.items
    c.args.slots.now c.args.mailbox.now c.requires.rest
    (subst (Awaits c.args.self.now.world.whole c.args.self.now.me) c.in-Ok.ensures.asked c.in-Ok.ensures.awaits)
    c.gather.new.self c.finish.new.self c.gather.new.disks.items c.gather.new.slots c.finish.new.slots c.gather.new.mailbox
    c.finish.result (gathers_at c.in-Ok-gather.is c.gather.ensures.gathers) c.finish.ensures.finishes

pub returns-in-Store-clause-goes : goal.returns-in-Store-clause-goes
returns-in-Store-clause-goes g c =
    take_unsaved g.K.Keep g.D.Disk g.N.Disk g.M.Mailbox c.args.piece.head c.args.self.now c.args.disks.now.items
    c.args.slots.now c.args.mailbox.now c.requires.rest
    (subst (Awaits c.args.self.now.world.whole c.args.self.now.me) c.in-Ok.ensures.asked c.in-Ok.ensures.awaits)
    c.gather.new.self c.finish-in-Store.new.self c.gather.new.disks.items c.gather.new.slots c.finish-in-Store.new.slots c.gather.new.mailbox
    c.finish-in-Store.result c.refused-in-Store.result (c.refused-in-Store.ensures ∙ ap refused c.in-Store.is)
    (gathers_at (c.in-Err-Refused.is ∙ ap Err c.in-Err-Refused.field-0-is ∙ ap (λ r. Err (halt.Refused r)) c.in-Store.is)
    c.gather.ensures.gathers) c.finish-in-Store.ensures.finishes

pub returns-in_err-undo-in_default-clause-goes : goal.returns-in_err-undo-in_default-clause-goes
returns-in_err-undo-in_default-clause-goes g c =
    let given = err_from_is_err_and c.from_residual.result c.from_residual.ensures.1 in
    rw (given.1, given.2)
    (take_hindered_fault g.K.Keep g.D.Disk g.N.Disk g.M.Mailbox c.args.piece.head c.args.self.now c.args.disks.now.items
    c.args.slots.now c.args.mailbox.now c.requires.rest c.in-Ok.asked
    c.in-Ok.ensures.asked c.in-Ok.ensures.awaits c.gather.new.self c.undo.new.self c.gather.new.disks.items
    c.gather.new.slots c.undo.new.slots c.gather.new.mailbox c.in-Err-Refused.refusal
    (gathers_at (c.in-Err-Refused.is ∙ ap Err c.in-Err-Refused.field-0-is) c.gather.ensures.gathers) c.in_default.not-Store
    c.in_err-undo-in_default.field-0.0
    (undoes_at (c.asked-noted.ensures ∙ ap (λ (m : MachineState g.row.K.Denot). m.note.asked) c.self.view_is) c.in_err-undo-in_default.was
    c.undo.ensures.undoes))

pub returns-in-Err-Refused-clause-goes : goal.returns-in-Err-Refused-clause-goes
returns-in-Err-Refused-clause-goes g c =
    take_hindered g.K.Keep g.D.Disk g.N.Disk g.M.Mailbox c.args.piece.head c.args.self.now c.args.disks.now.items
    c.args.slots.now c.args.mailbox.now c.requires.rest c.in-Ok.asked
    c.in-Ok.ensures.asked c.in-Ok.ensures.awaits c.gather.new.self c.undo.new.self c.gather.new.disks.items
    c.gather.new.slots c.undo.new.slots c.gather.new.mailbox c.in-Err-Refused.refusal
    (gathers_at (c.in-Err-Refused.is ∙ ap Err c.in-Err-Refused.field-0-is) c.gather.ensures.gathers) c.in_default.not-Store
    c.refused-in_default.result c.refused-in_default.ensures
    (undoes_at (c.asked-noted.ensures ∙ ap (λ (m : MachineState g.row.K.Denot). m.note.asked) c.self.view_is) c.in_ok-undo-in_default.was
    c.undo.ensures.undoes)

pub returns-in-Err-Memory-clause-goes : goal.returns-in-Err-Memory-clause-goes
returns-in-Err-Memory-clause-goes g c =
    take_memory g.K.Keep g.D.Disk g.N.Disk g.M.Mailbox c.args.piece.head c.args.self.now c.args.disks.now.items
    c.args.slots.now c.args.mailbox.now c.requires.rest
    (subst (Awaits c.args.self.now.world.whole c.args.self.now.me) c.in-Ok.ensures.asked c.in-Ok.ensures.awaits)
    c.gather.new.self c.finish-in-Err-Memory.new.self c.gather.new.disks.items c.gather.new.slots c.finish-in-Err-Memory.new.slots c.gather.new.mailbox
    c.finish-in-Err-Memory.result
    (gathers_at (c.in-Err-Memory.is ∙ ap Err c.in-Err-Memory.field-0-is) c.gather.ensures.gathers) c.finish-in-Err-Memory.ensures.finishes

pub returns-clause-goes : goal.returns-clause-goes
returns-clause-goes g c =
    take_unnoted g.K.Keep g.D.Disk g.N.Disk g.M.Mailbox c.args.piece.head c.args.self.now c.args.disks.now.items
    c.args.slots.now c.args.mailbox.now c.requires.rest
    (subst (Awaits c.args.self.now.world.whole c.args.self.now.me) c.in-Ok.ensures.asked c.in-Ok.ensures.awaits)
    c.gather.new.self c.finish-in-Err-Note.new.self c.gather.new.disks.items c.gather.new.slots c.finish-in-Err-Note.new.slots c.gather.new.mailbox
    c.finish-in-Err-Note.result
    (gathers_at (c.in-Err-Note.is ∙ ap Err c.in-Err-Note.field-0-is) c.gather.ensures.gathers) c.finish-in-Err-Note.ensures.finishes
