use Rattle.std.proofs.Common.{refl, ap, inl, inr}
use Rattle.ficus_model.specs.declared.event.Op.TheVariants.{Adopt}
use Rattle.ficus_rules.specs.Adopt.{AdoptRule}
use Rattle.ficus_rules.specs.Walk.{ParentRule}
use Rattle.ficus_rules.proofs.Rules.{behind, passed}
use Rattle.ficus_rules.proofs.Walks.{parent_never, parent_once}
use Rattle.ficus_deciding.specs.NewName.{NewNameRule}
use Rattle.ficus_deciding.specs.View.{tables_view}
use Rattle.ficus_deciding.proofs.Refusals.{isnt, step_stopped, stopped, wanted}
use Rattle.ficus_deciding.proofs.adopting.adopt.Goals as goal

pub returns-in_err-dir : goal.returns-in_err-dir
returns-in_err-dir c =
    let view = tables_view c.args.saved.now in
    let path = c.args.path.now in
    stopped _ (ParentRule view path) (AdoptRule view c.args.orphan path) (parent_never view path)
    (λ refusal stops. inr (c.if-not-is_orphan_here.ensures.0 refl, inl stops)) _ c.in_err-dir.ensures _
    c.from_residual.ensures.1

pub returns-in_err-is_within : goal.returns-in_err-is_within
returns-in_err-is_within c =
    wanted _ (AdoptRule (tables_view c.args.saved.now) c.args.orphan c.args.path.now) _
    c.from_residual-in_err-is_within.ensures.1
    (inr (record {
      is = c.if-not-is_orphan_here.ensures.0 refl;
      dir = c.in_ok-dir.dir;
      walked = c.in_ok-dir.ensures;
      directory = c.in_err-is_within.ensures.memory;
    }))

pub returns-then-branch : goal.returns-then-branch
returns-then-branch c =
    inr (
      c.if-not-is_orphan_here.ensures.0 refl,
      inr (c.in_ok-dir.dir, c.in_ok-dir.ensures, inl (c.in_ok-is_within.ensures.within.0 c.if-branch.true, refl)),
    )

pub returns-in_err-name : goal.returns-in_err-name
returns-in_err-name c =
    let view = tables_view c.args.saved.now in
    let path = c.args.path.now in
    let dir = c.in_ok-dir.dir in
    let orphan = c.if-not-is_orphan_here.ensures.0 refl in
    let outside = isnt (rw c.if-branch.false at c.in_ok-is_within.ensures.within) in
    step_stopped _ (NewNameRule view dir path) (AdoptRule view c.args.orphan path) inl
    (λ refusal stops. inr (orphan, inr (dir, c.in_ok-dir.ensures, inr (outside, stops))))
    (λ refusal refuses. passed outside (behind (parent_once view path) dir c.in_ok-dir.ensures
    (passed (λ none. none orphan) refuses))) _ c.in_err-name.ensures _ c.from_residual-in_err-name.ensures.1

pub returns : goal.returns
returns c =
    let outside = isnt (rw c.if-branch.false at c.in_ok-is_within.ensures.within) in
    let name = c.in_ok-name.ensures in (
      c.if-not-is_orphan_here.ensures.0 refl,
      (
        c.in_ok-dir.dir,
        c.in_ok-dir.ensures,
        (outside, (name.0, (name.1.0, ap (Adopt c.args.orphan c.in_ok-dir.dir) name.1.1))),
      ),
    )
