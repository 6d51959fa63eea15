use Rattle.std.proofs.lemmas.Result.{err_from_is_err_and}
use Rattle.ficus_machine.proofs.Opened.{not_noted, not_opened, opened}
use Rattle.ficus_machine.proofs.machine.Machine.open.Goals as goal

pub returns-in_err-world : goal.returns-in_err-world
returns-in_err-world g c =
    let given = err_from_is_err_and c.from_residual.result c.from_residual.ensures.1 in
    rw (given.1, given.2)
    (not_opened g.K.Keep g.D.Disk g.N.Disk c.args.me c.args.tag c.new.result.total c.args.disks.now.items
    c.open_alone.new.disks.items c.args.slots.now c.args.slots.now c.in_err-world.field-0.0 c.in_err-world.ensures)

pub returns-in_err-note : goal.returns-in_err-note
returns-in_err-note g c =
    let given = err_from_is_err_and c.from_residual-in_err-note.result c.from_residual-in_err-note.ensures.1 in
    rw (given.1, given.2)
    (not_noted g.K.Keep g.D.Disk g.N.Disk c.args.me c.args.tag c.new.result.total c.args.disks.now.items
    c.open_alone.new.disks.items c.args.slots.now c.open_note.new.slots c.in_ok-world.world c.in_ok-world.ensures
    c.in_err-note.field-0.0 c.in_err-note.ensures)

pub returns : goal.returns
returns g c =
    opened g.K.Keep g.D.Disk g.N.Disk c.args.me c.args.tag c.new.result.total c.args.disks.now.items
    c.open_alone.new.disks.items c.args.slots.now c.open_note.new.slots c.in_ok-world.world c.in_ok-world.ensures
    c.in_ok-note.note c.in_ok-note.ensures c.wait_as_noted.new.world
    (rw c.asked.ensures at c.wait_as_noted.ensures.waits) c.wait_as_noted.ensures.stables c.new.ensures.total
