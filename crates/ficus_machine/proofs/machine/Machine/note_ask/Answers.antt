use Rattle.std.proofs.Common.{Err, Ok, Some, ap, ◌∙◌}
use Rattle.std.proofs.lemmas.Result.{err_from_is_err_and}
use Rattle.ficus_machine.proofs.Lived.{notes_saved}
use Rattle.ficus_machine.proofs.machine.Machine.note_ask.Goals as goal

pub unreachable-requires : goal.unreachable-requires
unreachable-requires g c =
    let waits = rw (← c.self.view_is) at c.requires.waits in
    c.in_default.ensures.none waits.0 waits.1

pub returns-in_err-save-clause-notes : goal.returns-in_err-save-clause-notes
returns-in_err-save-clause-notes g c =
    let given = err_from_is_err_and c.from_residual.result c.from_residual.ensures.1 in
    rw (← c.self.view_is)
    (notes_saved g.N.Disk (Some c.noted_of.result) c.save.result c.from_residual.result c.self.inside.note
    c.save.new.self c.args.slots.now c.save.new.disks c.save.ensures.saves
    (λ never. absurd (never (given.1 ∙ ap Err given.2))))

pub returns-clause-notes : goal.returns-clause-notes
returns-clause-notes g c =
    rw (← c.self.view_is)
    (notes_saved g.N.Disk (Some c.noted_of.result) c.save.result (Ok c.in-Some.asked) c.self.inside.note
    c.save.new.self c.args.slots.now c.save.new.disks c.save.ensures.saves
    (λ never. c.in_ok-save.ensures.saves.asked))
