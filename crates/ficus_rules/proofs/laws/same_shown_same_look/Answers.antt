use Rattle.ficus_rules.proofs.Looks.{shown_along}
use Rattle.ficus_rules.proofs.laws.same_shown_same_look.Goals as goal

pub returns : goal.returns
returns c = λ volume H replica other look answer tells same. shown_along same look tells answer
