use Rattle.std.proofs.Common.{refl, ◌∙◌, arith}
use Rattle.std.proofs.lemmas.Result.{err_from_is_err_and}
use Rattle.ficus_loop.proofs.Faults.{untold}
use Rattle.ficus_top.proofs.graft.LinesServed.{front_next, lines_more, lines_none, told_at}
use Rattle.ficus_top.proofs.graft.answering.answer_lines.Goals as goal

pub loop-line-init : goal.loop-line-init
loop-line-init g c = record {
  served = lines_none _ _ _;
  held = c.requires.held;
  room = λ v world is. let few = c.requires.room v world is in omega (arith, few);
  count = refl;
  steady = refl;
}

pub answer_line-requires-clause-room : goal.answer_line-requires-clause-room
answer_line-requires-clause-room g c = λ v world is.
    let few = c.loop-line.invariant.room v world is in
    omega (arith, few, c.loop-line-test.true, c.requires.count)

pub loop-line-preserved : goal.loop-line-preserved
loop-line-preserved g c = record {
  served = lines_more c.args.lines.now c.loop-line.line-index c.line-item.result c.loop-line-test.true c.line-item.is
      (told_at c.args.lines.now c.loop-line.line-index c.line-item.result c.loop-line-test.true c.line-item.is)
      c.loop-line.invariant.count c.loop-line.invariant.served c.answer_line.new.volumes c.answer_line.new.disks.items _
      c.in_ok-answer_line.ensures.answers;
  held = c.answer_line.ensures.held;
  room = λ v world is.
      let few = c.answer_line.ensures.grows _ c.loop-line.invariant.room v world is in
      omega (arith, few);
  count = c.answer_line.ensures.count ∙ c.loop-line.invariant.count;
  steady = untold _ _ _ _ _ c.answer_line.ensures.told c.answer_line.ensures.counted c.in_ok-answer_line.was
      ∙ c.loop-line.invariant.steady;
}

pub returns-in_err-answer_line-clause-prefix : goal.returns-in_err-answer_line-clause-prefix
returns-in_err-answer_line-clause-prefix g c =
    let p = err_from_is_err_and c.from_residual.result c.from_residual.ensures.1 in
    rw p.1
    (front_next c.args.lines.now c.loop-line.line-index c.line-item.result c.loop-line-test.true c.line-item.is
    (told_at c.args.lines.now c.loop-line.line-index c.line-item.result c.loop-line-test.true c.line-item.is)
    c.loop-line.invariant.count c.loop-line.invariant.served c.answer_line.new.volumes
    c.answer_line.new.disks.items _ c.in_err-answer_line.ensures.prefix)
