use Rattle.std.proofs.lemmas.Result.{IfErr-weaker, err_from_is_err_and, on_ok_weaker}
use Rattle.ficus_top.proofs.Answering.{answers_of, front_of}
use Rattle.ficus_top.proofs.Kills.{killed_answers, killed_front}
use Rattle.ficus_top.proofs.Storing.{opening_unread}
use Rattle.ficus_top.proofs.running.run.Goals as goal

pub returns-clause-answers : goal.returns-clause-answers
returns-clause-answers g c = λ source_tells tells.
    on_ok_weaker c.run_on.result (λ ends volume H stands.
    answers_of {new = c.run_on.new.disks.items} stands.lawful (c.in_ok-commands.ensures.script source_tells).1
    c.deref.ensures.value (ends volume H stands)) (c.run_on.ensures.answers tells)

pub returns-clause-prefix : goal.returns-clause-prefix
returns-clause-prefix g c = λ source_tells tells.
    IfErr-weaker c.run_on.result _ _ (λ fault front answering volume H stands.
    front_of {new = c.run_on.new.disks.items} stands.lawful (c.in_ok-commands.ensures.script source_tells).1
    c.deref.ensures.value (front answering volume H stands)) (c.run_on.ensures.prefix tells)

pub returns-clause-killed : goal.returns-clause-killed
returns-clause-killed g c = λ source_tells tells.
    on_ok_weaker c.run_on.result (λ killed volume H stands crashes.
    killed_answers {new = c.run_on.new.disks.items} (c.in_ok-commands.ensures.script source_tells).1
    c.deref.ensures.value (killed volume H stands crashes)) (c.run_on.ensures.killed tells)

pub returns-clause-front_killed : goal.returns-clause-front_killed
returns-clause-front_killed g c = λ source_tells tells.
    IfErr-weaker c.run_on.result _ _ (λ fault front answering volume H stands crashes.
    killed_front {new = c.run_on.new.disks.items} (c.in_ok-commands.ensures.script source_tells).1
    c.deref.ensures.value (front answering volume H stands crashes)) (c.run_on.ensures.front_killed tells)

pub returns-in_err-commands-clause-opens : goal.returns-in_err-commands-clause-opens
returns-in_err-commands-clause-opens g c =
    let given = err_from_is_err_and c.from_residual.result c.from_residual.ensures.1 in
    rw (given.1, given.2) (opening_unread g.D.Disk c.in_err-commands.field-0.0 c.args.disks.now.items)
