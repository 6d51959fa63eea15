use Rattle.std.proofs.Common.{◌≡◌, ◌∷◌, ◌+◌, ℕ, [], List, length, ap, subst, sym, ◌∙◌, arith}
use Rattle.std.specs.Prelude.{sum_by}
use Rattle.std.specs.Vec.Iter.{into_iter_items}
use Rattle.std.proofs.lemmas.List.{nil_from_length}
use Rattle.std.proofs.lemmas.List.Sums.{sum_by-cons}
use Rattle.std.proofs.lemmas.Result.{err_from_is_err_and}
use Rattle.ficus_world.specs.Post.{HasRoom}
use Rattle.ficus_world.proofs.Sending.{sent_all, sent_failed, sent_next}
use Rattle.ficus_world.proofs.post.Post.send_each.Goals as goal

pub returns-in_err-send-clause-sent : goal.returns-in_err-send-clause-sent
returns-in_err-send-clause-sent g c = λ world.
    let refused = err_from_is_err_and c.from_residual.result c.from_residual.ensures.1 in
    let first : into_iter_items c.loop-message.message-iterator ≡ c.in-Some.message ∷ into_iter_items c.next.new.self =
    c.in-Some.ensures.steps.0 in
    let has = rw first at c.loop-message.invariant.sent in
    rw (refused.1, refused.2)
    (sent_failed g.L.Link.tells c.args.position c.args.messages.items c.args.self.now.now c.loop-message.index
    c.in-Some.message (into_iter_items c.next.new.self) c.loop-message.self.now c.send.new.self.now has
    c.in_err-send.ensures.failed c.in_err-send.field-0.0 c.in_err-send.ensures.refused world)

pub loop-message-preserved : goal.loop-message-preserved
loop-message-preserved g c =
    let first : into_iter_items c.loop-message.message-iterator ≡ c.in-Some.message ∷ into_iter_items c.next.new.self =
    c.in-Some.ensures.steps.0 in
    let rest = into_iter_items c.next.new.self in
    let longer : length (into_iter_items c.loop-message.message-iterator) ≡ length rest + 1 =
    omega (arith, ap (λ (list : List (List ℕ)). length list) first) in
    let has = rw first at c.loop-message.invariant.sent in
    let sent = rw c.into_vec.ensures at c.in_ok-send.ensures.sent in
    let all = ap (λ (list : List (List ℕ)). sum_by length list) first ∙ sum_by-cons length c.in-Some.message rest in
    record {
      sent =
          sent_next g.L.Link.tells c.args.position c.args.messages.items c.args.self.now.now c.loop-message.index
          c.in-Some.message rest c.loop-message.self.now c.send.new.self.now has c.in_ok-send.field-0 sent;
      room =
          c.in_ok-send.ensures.room (length rest)
          (subst (λ n. HasRoom c.loop-message.self n) longer c.loop-message.invariant.room);
      few = omega (arith, c.loop-message.invariant.few, longer, sent.counted);
      fits = omega (arith, c.loop-message.invariant.fits, all, sent.total);
      counted = omega (arith, c.loop-message.invariant.counted, longer);
    }

pub returns-clause-sent : goal.returns-clause-sent
returns-clause-sent g c = λ world.
    let none : into_iter_items c.loop-message.message-iterator ≡ [] =
    nil_from_length (into_iter_items c.loop-message.message-iterator)
    (sym c.loop-message.message-iterator.rest.ok.0 ∙ c.in-None.ensures.steps.0) in
    let has = rw none at c.loop-message.invariant.sent in
    sent_all g.L.Link.tells c.args.position c.args.messages.items c.args.self.now.now c.loop-message.index
    c.loop-message.self.now has world
