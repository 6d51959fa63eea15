use Rattle.ficus_standing_laws.proofs.Existing.{alike_is_same_view}
use Rattle.ficus_standing_laws.proofs.alikeness.alike_is_same_view.Goals as goal

pub returns : goal.returns
returns c = alike_is_same_view
