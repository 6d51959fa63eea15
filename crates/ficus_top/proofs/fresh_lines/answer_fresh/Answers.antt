use Rattle.std.proofs.lemmas.Result.{err_from_is_err_and, on_err_weaker, on_ok_weaker}
use Rattle.ficus_top.specs.Summary.Sized.{sized}
use Rattle.ficus_top.proofs.Begun.{answers_fresh, front_fresh, none_fresh, room_of}
use Rattle.ficus_top.proofs.fresh_lines.answer_fresh.Goals as goal

pub answer_lines-answered-requires-clause-room : goal.answer_lines-answered-requires-clause-room
answer_lines-answered-requires-clause-room g c =
    rw c.new-volumes.ensures
    (room_of (sized c.args.members c.args.ids c.args.bytes) c.in_ok-worlds.field-0.worlds.items
    c.in_ok-worlds.field-0.disks.items c.in_ok-worlds.ensures.fresh)

pub returns-in_err-worlds-clause-prefix : goal.returns-in_err-worlds-clause-prefix
returns-in_err-worlds-clause-prefix g c =
    let given = err_from_is_err_and c.from_residual.result c.from_residual.ensures.1 in
    rw given.1
    (none_fresh g.S.Sink.tells (sized c.args.members c.args.ids c.args.bytes) c.args.count c.args.lines.now
    (g.S.Sink.written c.args.output.now))

pub returns-clause-answers : goal.returns-clause-answers
returns-clause-answers g c =
    on_ok_weaker c.answer_lines-answered.result (λ answers.
    answers_fresh g.S.Sink.tells (sized c.args.members c.args.ids c.args.bytes) c.args.count c.args.lines.now
    c.in_ok-worlds.field-0.worlds.items c.new-volumes.result c.answer_lines-answered.new.volumes
    c.in_ok-worlds.field-0.disks.items c.answer_lines-answered.new.disks.items (g.S.Sink.written c.args.output.now)
    (g.S.Sink.written c.answer_lines-answered.new.output) c.new-volumes.ensures c.in_ok-worlds.ensures.counted
    c.in_ok-worlds.ensures.fresh c.read_links.ensures answers)
    c.answer_lines-answered.ensures.answers

pub returns-clause-prefix : goal.returns-clause-prefix
returns-clause-prefix g c =
    on_err_weaker c.answer_lines-answered.result (λ front.
    front_fresh g.S.Sink.tells (sized c.args.members c.args.ids c.args.bytes) c.args.count c.args.lines.now
    c.in_ok-worlds.field-0.worlds.items c.new-volumes.result c.answer_lines-answered.new.volumes
    c.in_ok-worlds.field-0.disks.items c.answer_lines-answered.new.disks.items (g.S.Sink.written c.args.output.now)
    (g.S.Sink.written c.answer_lines-answered.new.output) c.new-volumes.ensures c.in_ok-worlds.ensures.counted
    c.in_ok-worlds.ensures.fresh c.read_links.ensures front)
    c.answer_lines-answered.ensures.prefix
