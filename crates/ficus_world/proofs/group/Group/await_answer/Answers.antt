use Rattle.std.proofs.Common.{length}
use Rattle.ficus_ids.specs.Members.{IsMember}
use Rattle.ficus_runs.proofs.Numbers.{number_exists}
use Rattle.ficus_world.specs.World.{whole_of}
use Rattle.ficus_world.proofs.Waiting.{awaits_inside}
use Rattle.ficus_world.proofs.group.Group.await_answer.Goals as goal

pub invariant_of-self : goal.invariant_of-self
invariant_of-self g c =
    let inside = c.self.inside in
    let number = c.args.number in
    let member : IsMember (length inside.members.items) number = rw (← c.self.view_is) at c.requires.member in
    let was = number_exists inside.members.items number member in
    awaits_inside (whole_of inside.members.items inside.history.events inside.post.now) number was.0 c.args.ask
    c.wait_for.new.members.items c.self.invariant was.1 (c.wait_for.ensures was.0 was.1)
