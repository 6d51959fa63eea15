use Rattle.std.proofs.Common.{inl, inr}
use Rattle.ficus_rules.specs.Make.{MakeRule}
use Rattle.ficus_rules.specs.Walk.{ParentRule}
use Rattle.ficus_rules.proofs.Rules.{behind}
use Rattle.ficus_rules.proofs.Walks.{parent_never, parent_once}
use Rattle.ficus_deciding.specs.NewName.{NewNameRule}
use Rattle.ficus_deciding.specs.View.{tables_view}
use Rattle.ficus_deciding.proofs.Refusals.{step_stopped, stopped}
use Rattle.ficus_deciding.proofs.making.make.Goals as goal

pub returns-in_err-dir : goal.returns-in_err-dir
returns-in_err-dir c =
    let view = tables_view c.args.saved.now in
    let path = c.args.path.now in
    stopped _ (ParentRule view path) (MakeRule view path c.args.kind) (parent_never view path) (λ refusal stops. inl stops)
    _ c.in_err-dir.ensures _ c.from_residual.ensures.1

pub returns-in_err-name : goal.returns-in_err-name
returns-in_err-name c =
    let view = tables_view c.args.saved.now in
    let path = c.args.path.now in
    let dir = c.in_ok-dir.dir in
    step_stopped _ (NewNameRule view dir path) (MakeRule view path c.args.kind) (λ none. none)
    (λ refusal stops. inr (dir, c.in_ok-dir.ensures, stops))
    (λ refusal refuses. behind (parent_once view path) dir c.in_ok-dir.ensures refuses) _ c.in_err-name.ensures _
    c.from_residual-in_err-name.ensures.1
