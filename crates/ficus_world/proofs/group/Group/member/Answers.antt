use Rattle.std.proofs.Common.{sym}
use Rattle.ficus_runs.proofs.Numbers.{number_read}
use Rattle.ficus_world.proofs.group.Group.member.Goals as goal

pub returns-clause-sound : goal.returns-clause-sound
returns-clause-sound g c =
    let found = c.index.result.now in
    let member = rw (← c.self.view_is) at c.requires in
    rw (← c.self.view_is)
    (c.self.invariant.sound c.args.number found
    (number_read c.self.inside.members.items c.args.number found found member (sym c.index.ensures)))
