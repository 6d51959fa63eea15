use Rattle.std.proofs.Common.{List, refl, subst, sym}
use Rattle.std.proofs.lemmas.Result.{err_from_is_err_and}
use Rattle.ficus_member_script.specs.MemberLine.{IsMemberScript}
use Rattle.ficus_member_script.specs.declared.member_line.MemberLine.{MemberLine}
use Rattle.ficus_top.specs.Reading.{TakesAll}
use Rattle.ficus_member.proofs.Runs.{answered_on, never_rose, unopened_machine, unread, untagged}
use Rattle.ficus_member.proofs.running.run.Goals as goal

pub returns-in_err-lines : goal.returns-in_err-lines
returns-in_err-lines g c =
    let given = err_from_is_err_and c.from_residual.result c.from_residual.ensures.1 in
    let read = c.in_err-lines.ensures in
    rw (given.1, given.2)
    (unread _ c.in_err-lines.field-0.0 read.until read.failed read.told read.counted refl
    (record { disks = refl; beside = refl; mail = refl }))

pub returns-in_err-tag : goal.returns-in_err-tag
returns-in_err-tag g c =
    let given = err_from_is_err_and c.from_residual-in_err-tag.result c.from_residual-in_err-tag.ensures.1 in
    let read = c.in_ok-lines.ensures in
    rw (given.1, given.2)
    (untagged _ c.in_ok-lines.lines.items read.script (never_rose c.in_ok-lines.lines read.told) read.counted
    c.in_err-tag.field-0.0 c.in_err-tag.ensures refl
    refl refl refl)

pub returns-in_err-machine : goal.returns-in_err-machine
returns-in_err-machine g c =
    let given = err_from_is_err_and c.from_residual-in_err-machine.result c.from_residual-in_err-machine.ensures.1 in
    let read = c.in_ok-lines.ensures in
    rw (given.1, given.2)
    (unopened_machine _ c.in_ok-lines.lines.items read.script (never_rose c.in_ok-lines.lines read.told) read.counted
    c.in_ok-tag.ensures refl c.requires.pairs
    c.in_err-machine.field-0.0 c.in_err-machine.ensures refl refl)

pub returns : goal.returns
returns g c =
    let read = c.in_ok-lines.ensures in
    let done = c.answer_lines.ensures in
    let script : g.S.Source.tells
    → TakesAll (g.S.Source.left c.args.input.now) (g.S.Source.left c.read_lines.new.input)
    × IsMemberScript (g.S.Source.left c.args.input.now) c.deref.result.now =
    subst (λ (items : List MemberLine). g.S.Source.tells
    → TakesAll (g.S.Source.left c.args.input.now) (g.S.Source.left c.read_lines.new.input)
    × IsMemberScript (g.S.Source.left c.args.input.now) items) (sym c.deref.ensures.value) read.script in
    answered_on _ c.deref.result.now script (never_rose c.in_ok-lines.lines read.told) read.counted c.in_ok-tag.ensures
    refl c.in_ok-machine.ensures c.answer_lines.result done.answers done.front done.kinds done.note done.write_fault
    done.write_fault_comes done.counted
