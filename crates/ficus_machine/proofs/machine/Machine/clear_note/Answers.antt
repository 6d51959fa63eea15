use Rattle.std.proofs.Common.{Ok, refl}
use Rattle.ficus_machine.proofs.Lived.{notes_rest}
use Rattle.ficus_machine.proofs.machine.Machine.clear_note.Goals as goal

pub returns-else-index-head-clause-notes : goal.returns-else-index-head-clause-notes
returns-else-index-head-clause-notes g c =
    notes_rest g.N.Disk (Ok tt) c.args.self.now.note c.args.self.now.note c.args.slots.now c.args.slots.now refl refl
