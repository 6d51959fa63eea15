use Rattle.std.proofs.Common.{ℕ, List, length, Result, inl, inr}
use Rattle.ficus_ids.specs.Kind.{most_fixed_bytes, FitsKind}
use Rattle.ficus_ids.specs.declared.id.Id.{Id}
use Rattle.ficus_ids.specs.declared.kind.Kind.TheVariants.{Symlink}
use Rattle.ficus_ids.specs.declared.refusal.Refusal.{Refusal}
use Rattle.ficus_model.specs.declared.event.Op.{Op}
use Rattle.ficus_model.specs.declared.event.Op.TheVariants.{Make}
use Rattle.ficus_path.specs.declared.path.Path.{Path}
use Rattle.ficus_rules.specs.Limits.{LimitsUpTo}
use Rattle.ficus_rules.specs.Rule.{Gives, GivesWhere}
use Rattle.ficus_rules.specs.Symlink.{SymlinkRule}
use Rattle.ficus_rules.specs.Walk.{ParentRule, last_name}
use Rattle.ficus_rules.proofs.Limits.{up_to_passed}
use Rattle.ficus_rules.proofs.Rules.{behind, passed}
use Rattle.ficus_rules.proofs.Walks.{parent_never, parent_once}
use Rattle.ficus_deciding.specs.View.{tables_view}
use Rattle.ficus_deciding.proofs.Refusals.{isnt, step_stopped, stopped, wanted}
use Rattle.ficus_deciding.proofs.symlinking.symlink.Goals as goal

-- what comes after the limits
abbrev making : Path → Id → List ℕ → Result Op Refusal → Type 0
making path dir text = GivesWhere (FitsKind Symlink text) (Make dir (last_name path) Symlink text)

pub returns-in_err-dir : goal.returns-in_err-dir
returns-in_err-dir c =
    let view = tables_view c.args.saved.now in
    let path = c.args.path.now in
    stopped _ (ParentRule view path) (SymlinkRule view path c.args.text.now) (parent_never view path)
    (λ refusal stops. inl stops) _ c.in_err-dir.ensures _ c.from_residual.ensures.1

pub returns-in_err-text : goal.returns-in_err-text
returns-in_err-text c =
    let view = tables_view c.args.saved.now in
    let path = c.args.path.now in
    let text = c.args.text.now in
    step_stopped _ (LimitsUpTo most_fixed_bytes view (length text) (Gives text)) (SymlinkRule view path text) (λ none. none)
    (λ refusal over. inr (c.in_ok-dir.dir, c.in_ok-dir.ensures, inr (isnt c.if-is_taken.ensures, over)))
    (λ refusal refuses. passed (isnt c.if-is_taken.ensures)
    (behind (parent_once view path) c.in_ok-dir.dir c.in_ok-dir.ensures refuses)) _ c.in_err-text.ensures _
    c.from_residual-in_err-text.ensures.1

pub returns-in_err-name : goal.returns-in_err-name
returns-in_err-name c =
    let view = tables_view c.args.saved.now in
    let path = c.args.path.now in
    let text = c.args.text.now in
    wanted _ (SymlinkRule view path text) _ c.from_residual-in_err-name.ensures.1
    (λ refusal refuses. up_to_passed most_fixed_bytes view (length text) _ _ (making path c.in_ok-dir.dir text) refusal c.in_ok-text.ensures
    (passed (isnt c.if-is_taken.ensures) (behind (parent_once view path) c.in_ok-dir.dir c.in_ok-dir.ensures refuses)))
