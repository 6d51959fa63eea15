use Rattle.ficus_script.proofs.VerbLaws.{told}
use Rattle.ficus_script.proofs.verbs.is_one.Goals as goal

pub returns : goal.returns
returns c = rw c.is_some.ensures (λ spelling is. told spelling c.args.found is)
