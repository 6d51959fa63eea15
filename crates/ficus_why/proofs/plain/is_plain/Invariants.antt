use Rattle.ficus_model.specs.Events.{before}
use Rattle.ficus_why.specs.Plain.{IsPlain}
use Rattle.ficus_why.proofs.plain.is_plain.Given as goal

-- the events so far are plain
abbrev pub invariant-loop-position : goal.invariant-loop-position
invariant-loop-position l = IsPlain (before l.position l.history.events)
