use Rattle.std.proofs.Common.{refl, sym, arith}
use Rattle.std.proofs.lemmas.Result.{on_ok_weaker, IfErr-weaker}
use Rattle.ficus_loop.proofs.Places.{tells_all}
use Rattle.ficus_top.proofs.Ends.{front_ends, front_on, served_ends, served_on}
use Rattle.ficus_top.proofs.running.answer_on.Goals as goal

pub returns-clause-answers : goal.returns-clause-answers
returns-clause-answers g c = λ told.
    on_ok_weaker c.answer_all-answered.result (λ serve volume W stands up.
    served_ends refl told (sym c.link.ensures.faults) (c.disks_stand.ensures.stand told volume)
    (c.disks_stand.ensures.outlasts told volume) (λ M. c.pending_events_may_come.ensures volume M _) up
    (omega (arith, c.requires.backed.pairs, stands.members, stands.standings)) (serve volume W stands))
    (c.answer_all-answered.ensures.answers tt (tells_all told c.args.commands.now))

pub returns-clause-prefix : goal.returns-clause-prefix
returns-clause-prefix g c = λ told.
    IfErr-weaker c.answer_all-answered.result _ _ (λ fault serve volume W stands up.
    front_ends refl told (sym c.link.ensures.faults) (c.disks_stand.ensures.stand told volume)
    (c.disks_stand.ensures.outlasts told volume) (λ M. c.pending_events_may_come.ensures volume M _) up
    (omega (arith, c.requires.backed.pairs, stands.members, stands.standings)) (serve volume W stands))
    (c.answer_all-answered.ensures.prefix tt (tells_all told c.args.commands.now))

pub returns-clause-runs : goal.returns-clause-runs
returns-clause-runs g c = λ told.
    on_ok_weaker c.answer_all-answered.result (λ serve volume W stands up.
    served_on refl told (sym c.link.ensures.faults) (c.disks_stand.ensures.stand told volume)
    (c.disks_stand.ensures.outlasts told volume) (λ M. c.pending_events_may_come.ensures volume M _) refl up
    (omega (arith, c.requires.backed.pairs, stands.members, stands.standings)) (serve volume W stands))
    (c.answer_all-answered.ensures.answers tt (tells_all told c.args.commands.now))

pub returns-clause-front_runs : goal.returns-clause-front_runs
returns-clause-front_runs g c = λ told.
    IfErr-weaker c.answer_all-answered.result _ _ (λ fault serve volume W stands up.
    front_on refl told (sym c.link.ensures.faults) (c.disks_stand.ensures.stand told volume)
    (c.disks_stand.ensures.outlasts told volume) (λ M. c.pending_events_may_come.ensures volume M _) refl up
    (omega (arith, c.requires.backed.pairs, stands.members, stands.standings)) (serve volume W stands))
    (c.answer_all-answered.ensures.prefix tt (tells_all told c.args.commands.now))

pub returns-clause-others : goal.returns-clause-others
returns-clause-others g c = c.answer_all-answered.ensures.others

pub disks_stand-requires : goal.disks_stand-requires
disks_stand-requires g c = c.answer_all-answered.ensures.backed.disks
