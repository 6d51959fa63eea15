use Rattle.std.proofs.Common.{Err, Ok, ap, refl, ◌∙◌}
use Rattle.std.proofs.lemmas.Result.{err_from_is_err_and}
use Rattle.ficus_machine.proofs.Lived.{notes_rest, notes_saves}
use Rattle.ficus_machine.proofs.noting.save_note.Goals as goal

pub returns-then-eq-clause-notes : goal.returns-then-eq-clause-notes
returns-then-eq-clause-notes g c =
    notes_rest g.N.Disk (Ok tt) c.args.note.now c.args.note.now c.args.slots.now c.args.slots.now refl refl

pub returns-in_err-save-clause-notes : goal.returns-in_err-save-clause-notes
returns-in_err-save-clause-notes g c =
    let given = err_from_is_err_and c.from_residual-in_err-save.result c.from_residual-in_err-save.ensures.1 in
    notes_saves g.N.Disk c.args.noted c.save.result c.from_residual-in_err-save.result c.args.note.now
    c.prepare_note.new.note c.save.new.self c.args.slots.now c.prepare_note.new.slots c.save.new.disks
    c.prepare_note.ensures.noting c.prepare_note.ensures.prepares.asked c.save.ensures.saves
    (λ never. absurd (never (given.1 ∙ ap Err given.2)))

pub returns-clause-notes : goal.returns-clause-notes
returns-clause-notes g c =
    notes_saves g.N.Disk c.args.noted c.save.result (Ok tt) c.args.note.now
    c.prepare_note.new.note c.save.new.self c.args.slots.now c.prepare_note.new.slots c.save.new.disks
    c.prepare_note.ensures.noting c.prepare_note.ensures.prepares.asked c.save.ensures.saves
    (λ never. c.in_ok-save.ensures.saves.asked)
