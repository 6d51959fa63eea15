use Rattle.std.proofs.lemmas.Bool.{false≢true}
use Rattle.ficus_script.proofs.CommandLaws.{found_step}
use Rattle.ficus_script.proofs.verbs.is_step.Goals as goal

pub returns-in-Some : goal.returns-in-Some
returns-in-Some c = λ spelling is.
    let found = rw c.in-Some.is at is in
    let same = found_step spelling c.in-Some.command found.0 found.1 in (
      λ yes. same.0 (c.is_step.ensures.0 yes),
      λ spelled. c.is_step.ensures.1 (same.1 spelled),
    )

pub returns-in-None : goal.returns-in-None
returns-in-None c = λ spelling is.
    let none = rw c.in-None.is at is in (
      λ yes. absurd (false≢true yes),
      λ spelled. absurd (none spelled.0 spelled.1 spelled.2),
    )
