use Rattle.ficus_machine.specs.Answers.{answered}
use Rattle.ficus_machine.proofs.machine.Machine.awaited.Goals as goal

pub returns-in_default-clause-stale : goal.returns-in_default-clause-stale
returns-in_default-clause-stale g c = λ same.
    rw (← c.self.view_is)
    (c.replica.ensures.up.0 c.if-is_none.ensures, c.in_default.ensures.none (answered c.args.head))
