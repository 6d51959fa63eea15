use Rattle.std.proofs.Common.{ℕ, Err, refl, subst, ◌∙◌}
use Rattle.std.proofs.lemmas.Result.{err_from_is_err_and}
use Rattle.ficus_loop.proofs.Faults.{untold}
use Rattle.ficus_member.specs.Answered.{IsOfLines}
use Rattle.ficus_member.proofs.Answering.{lines_end, lines_more, lines_none, note_behind}
use Rattle.ficus_member.proofs.running.answer_lines.Goals as goal

pub loop-line-init : goal.loop-line-init
loop-line-init g c = record {
  answers = lines_none c.args.machine.now c.args.disks.now.items c.args.slots.now c.args.mailbox.now c.args.output.now
      c.requires.rest;
  slots = record { a = refl; b = refl };
  sink = refl;
}

pub answer_line-requires-clause-rest : goal.answer_line-requires-clause-rest
answer_line-requires-clause-rest g c = c.loop-line.invariant.answers.rest

pub loop-line-preserved : goal.loop-line-preserved
loop-line-preserved g c =
    let was = c.loop-line.invariant in
    let ends = c.in_ok-answer_line.ensures.ends in
    record {
      answers = lines_more c.args.lines.now c.loop-line.line-index c.line-item.result c.loop-line-test.true c.line-item.is
          was.answers c.answer_line.new.machine c.answer_line.new.disks.items c.answer_line.new.slots
          c.answer_line.new.mailbox c.answer_line.new.output ends.puts ends.goes ends.rest ends.same ends.lives;
      slots = record { a = ends.note.steady.a ∙ was.slots.a; b = ends.note.steady.b ∙ was.slots.b };
      sink = untold _ _ _ _ _ c.answer_line.ensures.write_fault_comes c.answer_line.ensures.counted
          c.in_ok-answer_line.was ∙ was.sink;
    }

pub returns-in_err-answer_line-clause-front : goal.returns-in_err-answer_line-clause-front
returns-in_err-answer_line-clause-front g c =
    let given = err_from_is_err_and c.from_residual.result c.from_residual.ensures.1 in
    let ends = c.in_err-answer_line.ensures.ends in
    let was = c.loop-line.invariant in
    rw (given.1, given.2)
    (lines_end c.args.lines.now c.loop-line.line-index c.line-item.result c.loop-line-test.true c.line-item.is
    was.answers c.in_err-answer_line.field-0.0 c.answer_line.new.machine c.answer_line.new.disks.items
    c.answer_line.new.slots c.answer_line.new.mailbox c.answer_line.new.output ends.breaks ends.goes ends.backed
    ends.lives
    (note_behind {result = Err c.in_err-answer_line.field-0.0} was.answers.same.me was.slots ends.note))

pub returns-in_err-answer_line-clause-note : goal.returns-in_err-answer_line-clause-note
returns-in_err-answer_line-clause-note g c =
    let given = err_from_is_err_and c.from_residual.result c.from_residual.ensures.1 in
    let was = c.loop-line.invariant in
    rw (given.1, given.2)
    (note_behind {result = Err c.in_err-answer_line.field-0.0} was.answers.same.me was.slots
    c.in_err-answer_line.ensures.ends.note)

pub returns-in_err-answer_line-clause-kinds : goal.returns-in_err-answer_line-clause-kinds
returns-in_err-answer_line-clause-kinds g c =
    let given = err_from_is_err_and c.from_residual.result c.from_residual.ensures.1 in
    rw (given.1, given.2)
    (subst (λ (me : ℕ). IsOfLines me c.in_err-answer_line.field-0.0) c.loop-line.invariant.answers.same.me
    c.in_err-answer_line.ensures.kinds)
