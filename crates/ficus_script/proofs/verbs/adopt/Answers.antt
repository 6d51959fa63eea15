use Rattle.ficus_script.proofs.CommandLaws.{no_adopt}
use Rattle.ficus_script.proofs.verbs.adopt.Goals as goal

pub returns-in_err-orphan : goal.returns-in_err-orphan
returns-in_err-orphan c =
    rw c.from_residual.ensures
    (λ by number. no_adopt by c.args.from.now c.args.path.now c.in_err-orphan.ensures.none)
