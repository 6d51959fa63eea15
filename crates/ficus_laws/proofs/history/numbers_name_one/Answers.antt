use Rattle.ficus_laws.proofs.Updates.{update_once}
use Rattle.ficus_laws.proofs.history.numbers_name_one.Goals as goal

pub returns : goal.returns
returns c = λ H position again number op other. update_once
