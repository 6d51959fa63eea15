use Rattle.ficus_rules.proofs.Rules.{passed}
use Rattle.ficus_deciding.specs.NewName.{NewNameRule}
use Rattle.ficus_deciding.specs.View.{tables_view}
use Rattle.ficus_deciding.proofs.Refusals.{isnt, wanted}
use Rattle.ficus_deciding.proofs.new_name.new_name.Goals as goal

pub returns-in_err-name : goal.returns-in_err-name
returns-in_err-name c =
    wanted _ (NewNameRule (tables_view c.args.saved.now) c.args.dir c.args.path.now) _ c.from_residual.ensures.1
    (λ refusal refuses. passed (isnt c.if-is_spent.ensures) (passed (isnt c.if-is_taken.ensures) refuses))
