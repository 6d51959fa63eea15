use Rattle.ficus_rules.specs.View.{history_view}
use Rattle.ficus_rules.proofs.Looks.{look_once}
use Rattle.ficus_rules.proofs.Sound.{history_sound}
use Rattle.ficus_rules.proofs.laws.one_look.Goals as goal

pub returns : goal.returns
returns c = λ volume H replica look. look_once (history_view volume H replica) (history_sound volume H replica) look
