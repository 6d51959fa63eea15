use Rattle.ficus_rules.proofs.Looks.{look_once}
use Rattle.ficus_deciding.specs.View.{tables_view}
use Rattle.ficus_deciding.proofs.Sound.{tables_sound}
use Rattle.ficus_deciding.proofs.laws.one_look.Goals as goal

pub returns : goal.returns
returns c = λ saved look fits. look_once (tables_view saved) (tables_sound fits) look
