use Rattle.ficus_laws.proofs.Shown.{shows_same, same_from_known}
use Rattle.ficus_laws.proofs.Views.{equal_known, view_same}
use Rattle.ficus_laws.proofs.live.same_updates_show_same.Goals as goal

pub returns-clause-shown : goal.returns-clause-shown
returns-clause-shown c = λ H replica other same. shows_same (same_from_known same)

pub returns-clause-view : goal.returns-clause-view
returns-clause-view c = λ H replica other same. view_same (equal_known same)
