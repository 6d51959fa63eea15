use Rattle.ficus_rules.proofs.Changes.{change_once}
use Rattle.ficus_deciding.specs.View.{tables_view}
use Rattle.ficus_deciding.proofs.Sound.{tables_sound}
use Rattle.ficus_deciding.proofs.laws.one_change.Goals as goal

pub returns : goal.returns
returns c = λ saved change fits. change_once (tables_view saved) (tables_sound fits) change
