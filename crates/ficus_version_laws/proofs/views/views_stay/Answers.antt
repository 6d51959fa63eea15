use Rattle.ficus_laws.proofs.Positions.{agree_more}
use Rattle.ficus_laws.proofs.Knowledge.{knows_within}
use Rattle.ficus_laws.proofs.Views.{agree_known, same_view}
use Rattle.ficus_version_laws.proofs.views.views_stay.Goals as goal

pub returns : goal.returns
returns c = λ H later replica. same_view (agree_known (agree_more H later) (λ position k. knows_within k))
