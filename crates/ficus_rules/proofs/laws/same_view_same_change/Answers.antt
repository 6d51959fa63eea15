use Rattle.ficus_rules.proofs.Changes.{change_along}
use Rattle.ficus_rules.proofs.laws.same_view_same_change.Goals as goal

pub returns : goal.returns
returns c = λ volume H replica other change answer same. change_along same change answer
