use Rattle.ficus_machine.proofs.Lived.{never_note, notes_prepares, notes_then}
use Rattle.ficus_machine.proofs.machine.Machine.prepare_ask.Goals as goal

pub returns-clause-notes : goal.returns-clause-notes
returns-clause-notes g c =
    rw (← c.self.view_is)
    (notes_then g.N.Disk c.save_note.result c.prepare_note.result c.self.inside.note c.save_note.new.note
    c.prepare_note.new.note c.args.slots.now c.save_note.new.slots c.prepare_note.new.slots
    (never_note c.save_note.result c.in_ok-save_note.field-0 c.in_ok-save_note.was) c.save_note.ensures.notes
    (notes_prepares g.N.Disk c.prepare_note.result c.save_note.new.note c.prepare_note.new.note c.save_note.new.slots
    c.prepare_note.new.slots c.prepare_note.ensures.noting c.prepare_note.ensures.prepares.asked))
