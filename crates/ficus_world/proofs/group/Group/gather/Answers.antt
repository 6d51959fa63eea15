use Rattle.std.proofs.Common.{length, refl}
use Rattle.ficus_ids.specs.Members.{IsMember}
use Rattle.ficus_model.specs.declared.event.Event.TheVariants.{Take}
use Rattle.ficus_runs.proofs.Numbers.{number_exists}
use Rattle.ficus_wire.specs.Parts.{with_part}
use Rattle.ficus_world.specs.Moves.{parts_held}
use Rattle.ficus_world.proofs.Gathered.{gathered_inside}
use Rattle.ficus_world.proofs.group.Group.gather.Goals as goal

pub invariant_of-self-2 : goal.invariant_of-self-2
invariant_of-self-2 g c =
    let to = c.args.came.to in
    let head = c.args.head in
    let inside = c.self.inside in
    let member : IsMember (length inside.members.items) to = rw (← c.self.view_is) at c.requires.to in
    let was = number_exists inside.members.items to member in
    let stored = rw c.reserve.ensures.events at c.push.ensures.events in
    gathered_inside inside.members.items inside.history.events inside.post.now to was.0
    (with_part (parts_held was.0.parts head) head.index c.args.bytes.now)
    (Take to c.behind-serve.result.position head.index) c.add_piece.new.members.items c.push.new.self.events
    c.self.invariant was.1 refl (c.in_ok-add_piece.ensures.added was.0 was.1) stored
