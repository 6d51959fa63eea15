use Rattle.std.proofs.Common.{List, refl, ap, inl, inr}
use Rattle.ficus_ids.specs.declared.id.Id.{Id}
use Rattle.ficus_model.specs.declared.event.Op.TheVariants.{Remove}
use Rattle.ficus_rules.specs.Remove.{RemoveRule}
use Rattle.ficus_rules.specs.Walk.{EntryRule}
use Rattle.ficus_rules.proofs.Rules.{behind, passed}
use Rattle.ficus_rules.proofs.Walks.{entry_never, entry_once}
use Rattle.ficus_deciding.specs.Files.{found_as}
use Rattle.ficus_deciding.specs.View.{tables_view}
use Rattle.ficus_deciding.proofs.Refusals.{isnt, stopped, wanted}
use Rattle.ficus_deciding.proofs.removing.remove.Goals as goal

pub returns-in_err-found : goal.returns-in_err-found
returns-in_err-found c =
    let view = tables_view c.args.saved.now in
    let path = c.args.path.now in
    stopped _ (EntryRule view path) (RemoveRule view path) (entry_never view path) (λ refusal stops. inl stops) _
    c.in_err-found.ensures.rule _ c.from_residual.ensures.1

pub returns-in_err-may_lose : goal.returns-in_err-may_lose
returns-in_err-may_lose c =
    let view = tables_view c.args.saved.now in
    wanted _ (RemoveRule view c.args.path.now) _ c.from_residual-in_err-may_lose.ensures.1
    (inr (record {
      found = found_as c.in_ok-found.found;
      walked = c.in_ok-found.ensures.rule;
      full = c.in_err-may_lose.ensures.memory;
    }))

pub returns-then-not-branch : goal.returns-then-not-branch
returns-then-not-branch c =
    let bad = rw c.last_name-name.ensures at (c.in_ok-may_lose.ensures.may_not c.if-not-branch.true) in
    inr (found_as c.in_ok-found.found, c.in_ok-found.ensures.rule, inl (bad, refl))

pub returns-then-is_spent : goal.returns-then-is_spent
returns-then-is_spent c =
    let good = rw c.last_name-name.ensures at (c.in_ok-may_lose.ensures.may c.if-not-branch.false) in
    inr (
      found_as c.in_ok-found.found,
      c.in_ok-found.ensures.rule,
      inr (good, inl (c.if-is_spent.ensures.0 refl, refl)),
    )

pub returns-in_err-entries : goal.returns-in_err-entries
returns-in_err-entries c =
    let view = tables_view c.args.saved.now in
    let path = c.args.path.now in
    let good = rw c.last_name-name.ensures at (c.in_ok-may_lose.ensures.may c.if-not-branch.false) in
    wanted _ (RemoveRule view path) _ c.from_residual-in_err-entries.ensures.1
    (inl (λ refusal refuses. passed (isnt c.if-is_spent.ensures) (passed (λ bad. bad.1 (good bad.0))
    (behind (entry_once view path) (found_as c.in_ok-found.found) c.in_ok-found.ensures.rule refuses))))

pub returns : goal.returns
returns c =
    let found = found_as c.in_ok-found.found in
    let good = rw c.last_name-name.ensures at (c.in_ok-may_lose.ensures.may c.if-not-branch.false) in
    let named = rw c.last_name-name.ensures at c.in_ok-entries.ensures in (
      found,
      c.in_ok-found.ensures.rule,
      (
        good,
        (
          isnt c.if-is_spent.ensures,
          (c.in_ok-entries.entries.items, named, ap (λ (ids : List Id). Remove ids found.object) c.of.ensures),
        ),
      ),
    )
