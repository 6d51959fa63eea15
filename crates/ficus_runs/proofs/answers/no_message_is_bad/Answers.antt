use Rattle.std.proofs.Common.{Err, refl}
use Rattle.ficus_ids.specs.declared.refusal.Refusal.TheVariants.{BadMessage}
use Rattle.ficus_runs.proofs.Never.{gives_mail_never}
use Rattle.ficus_runs.proofs.Pulls.{pull_refused}
use Rattle.ficus_runs.proofs.answers.no_message_is_bad.Goals as goal

pub returns-clause-give : goal.returns-clause-give
returns-clause-give c = λ volume W number left does.
    gives_mail_never volume number W (Err BadMessage) left does refl

pub returns-clause-pull : goal.returns-clause-pull
returns-clause-pull c = λ volume W by to left does.
    let asking = pull_refused volume W by to BadMessage left does in cc
