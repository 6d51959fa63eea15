use Rattle.std.proofs.lemmas.Result.{err_from_is_err_and}
use Rattle.ficus_top.specs.Making.{volume_of}
use Rattle.ficus_top.proofs.Joined.{answers_volumes, front_volumes}
use Rattle.ficus_top.proofs.joining.join.Goals as goal

pub returns-in_err-answer_fresh-clause-prefix : goal.returns-in_err-answer_fresh-clause-prefix
returns-in_err-answer_fresh-clause-prefix g c = λ tells.
    let given = err_from_is_err_and c.from_residual-in_err-answer_fresh.result
    c.from_residual-in_err-answer_fresh.ensures.1 in
    rw given.1
    (λ answering.
    front_volumes g.K.Sink.tells (volume_of c.args.size) c.args.count (g.S.Source.left c.args.input.now)
    (g.K.Sink.written c.args.output.now) (g.K.Sink.written c.answer_fresh.new.output) c.in_ok-lines.lines.items
    c.deref.result.now (c.in_ok-lines.ensures.script tells).1 c.deref.ensures.value c.in_err-answer_fresh.ensures.prefix)

pub returns-clause-answers : goal.returns-clause-answers
returns-clause-answers g c = λ tells.
    answers_volumes g.K.Sink.tells (volume_of c.args.size) c.args.count (g.S.Source.left c.args.input.now)
    (g.K.Sink.written c.args.output.now) (g.K.Sink.written c.answer_fresh.new.output) c.in_ok-lines.lines.items
    c.deref.result.now (c.in_ok-lines.ensures.script tells).1 c.deref.ensures.value c.in_ok-answer_fresh.ensures.answers
