use Rattle.std.proofs.Common.{Err, Ok, ◌∙◌, arith}
use Rattle.std.proofs.lemmas.Result.{err_from_is_err_and}
use Rattle.ficus_world.proofs.Sending.{has_posted, mails_count, posted_done, posted_failed, posted_world, served_few, served_some}
use Rattle.ficus_world.proofs.group.Group.serve.Goals as goal

pub overflow_cast-pieces : goal.overflow_cast-pieces
overflow_cast-pieces g c =
    let given = c.in_ok-state.field-0 in
    omega (
      arith,
      served_few g.L.Link.tells c.args.self.now c.args.came given.state c.len-pieces.result given.messages.items
          c.in_ok-state.ensures.serves (c.len-pieces.ensures ∙ given.messages.ok.0),
    )

pub send_each-requires-clause-few : goal.send_each-requires-clause-few
send_each-requires-clause-few g c =
    let given = c.in_ok-state.field-0 in
    let counted = c.len-pieces.ensures ∙ given.messages.ok.0 in
    rw c.in_ok-make_room.ensures.same
    (omega (
      arith,
      served_few g.L.Link.tells c.args.self.now c.args.came given.state c.len-pieces.result given.messages.items
          c.in_ok-state.ensures.serves counted,
      counted,
      c.self.invariant.within,
    ))

pub invariant_of-self-in_err-send_each : goal.invariant_of-self-in_err-send_each
invariant_of-self-in_err-send_each g c =
    let given = c.in_ok-state.field-0 in
    let posted = has_posted g.L.Link.tells c.args.came given.state given.messages.items
    (Err c.in_err-send_each.field-0.0) c.self.view_is c.in_ok-state.ensures.serves
    (c.len-pieces.ensures ∙ given.messages.ok.0) c.in_ok-reserve.ensures.events c.in_ok-make_room.ensures.same
    c.behind-ask.ensures c.len-position.ensures.value c.push.ensures.events c.in_err-send_each.ensures.refused
    c.in_err-send_each.ensures.sent in
    posted_world posted c.self.invariant

pub returns-in_err-send_each-clause-serves : goal.returns-in_err-send_each-clause-serves
returns-in_err-send_each-clause-serves g c =
    let refused = err_from_is_err_and c.from_residual-in_err-send_each.result c.from_residual-in_err-send_each.ensures.1 in
    let given = c.in_ok-state.field-0 in
    rw (refused.1, refused.2)
    (posted_failed
    (has_posted g.L.Link.tells c.args.came given.state given.messages.items (Err c.in_err-send_each.field-0.0)
    c.self.view_is c.in_ok-state.ensures.serves (c.len-pieces.ensures ∙ given.messages.ok.0)
    c.in_ok-reserve.ensures.events c.in_ok-make_room.ensures.same c.behind-ask.ensures c.len-position.ensures.value
    c.push.ensures.events c.in_err-send_each.ensures.refused c.in_err-send_each.ensures.sent) c.self.view_is)

pub mailed-requires-clause-some : goal.mailed-requires-clause-some
mailed-requires-clause-some g c =
    let given = c.in_ok-state.field-0 in
    served_some g.L.Link.tells c.args.self.now c.args.came given.state c.len-pieces.result given.messages.items
    c.in_ok-state.ensures.serves (c.len-pieces.ensures ∙ given.messages.ok.0)

pub mailed-requires-clause-within : goal.mailed-requires-clause-within
mailed-requires-clause-within g c =
    let given = c.in_ok-state.field-0 in
    let first = rw c.in_ok-make_room.ensures.same at c.next-first.ensures in
    omega (
      arith,
      served_few g.L.Link.tells c.args.self.now c.args.came given.state c.len-pieces.result given.messages.items
          c.in_ok-state.ensures.serves (c.len-pieces.ensures ∙ given.messages.ok.0),
      first,
      c.self.invariant.within,
    )

pub invariant_of-self-2 : goal.invariant_of-self-2
invariant_of-self-2 g c =
    let given = c.in_ok-state.field-0 in
    posted_world
    (has_posted g.L.Link.tells c.args.came given.state given.messages.items (Ok tt) c.self.view_is
    c.in_ok-state.ensures.serves (c.len-pieces.ensures ∙ given.messages.ok.0) c.in_ok-reserve.ensures.events
    c.in_ok-make_room.ensures.same c.behind-ask.ensures c.len-position.ensures.value c.push.ensures.events tt
    c.in_ok-send_each.ensures.sent) c.self.invariant

pub returns-clause-serves : goal.returns-clause-serves
returns-clause-serves g c =
    let given = c.in_ok-state.field-0 in
    let first = rw c.in_ok-make_room.ensures.same at c.next-first.ensures in
    rw c.mailed.ensures
    (posted_done
    (has_posted g.L.Link.tells c.args.came given.state given.messages.items (Ok tt) c.self.view_is
    c.in_ok-state.ensures.serves (c.len-pieces.ensures ∙ given.messages.ok.0) c.in_ok-reserve.ensures.events
    c.in_ok-make_room.ensures.same c.behind-ask.ensures c.len-position.ensures.value c.push.ensures.events tt
    c.in_ok-send_each.ensures.sent) c.self.view_is first)

pub returns-clause-few : goal.returns-clause-few
returns-clause-few g c =
    let given = c.in_ok-state.field-0 in
    let count = mails_count c.next-first.result c.len-pieces.result (omega (arith, c.next-first.ensures)) in
    rw c.mailed.ensures
    (omega (
      arith,
      served_few g.L.Link.tells c.args.self.now c.args.came given.state c.len-pieces.result given.messages.items
          c.in_ok-state.ensures.serves (c.len-pieces.ensures ∙ given.messages.ok.0),
      count,
    ))
