use Rattle.std.proofs.Common.{refl}
use Rattle.ficus_machine.proofs.Lived.{notes_rest}
use Rattle.ficus_machine.proofs.machine.Machine.finish.Goals as goal

pub returns-in_err-answer-clause-notes : goal.returns-in_err-answer-clause-notes
returns-in_err-answer-clause-notes g c =
    notes_rest g.N.Disk c.from_residual.result c.args.self.now.note c.renew.new.self.note c.args.slots.now
    c.args.slots.now c.renew.ensures.note refl
