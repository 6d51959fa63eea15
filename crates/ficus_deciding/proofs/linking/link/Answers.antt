use Rattle.std.proofs.Common.{ℕ, List, refl, ap, inl, inr}
use Rattle.ficus_model.specs.declared.event.Op.TheVariants.{Link}
use Rattle.ficus_rules.specs.Link.{LinkRule}
use Rattle.ficus_rules.specs.Walk.{PlacesRule}
use Rattle.ficus_rules.proofs.Rules.{behind, passed}
use Rattle.ficus_rules.proofs.Walks.{places_never, places_once}
use Rattle.ficus_deciding.specs.Files.{places_as}
use Rattle.ficus_deciding.specs.NewName.{NewNameRule}
use Rattle.ficus_deciding.specs.View.{tables_view}
use Rattle.ficus_deciding.proofs.Refusals.{isnt, step_stopped, stopped}
use Rattle.ficus_deciding.proofs.linking.link.Goals as goal

pub returns-in_err-places : goal.returns-in_err-places
returns-in_err-places c =
    let view = tables_view c.args.saved.now in
    let from = c.args.from.now in
    let path = c.args.path.now in
    stopped _ (PlacesRule view from path) (LinkRule view from path) (places_never view from path)
    (λ refusal stops. inl stops) _ c.in_err-places.ensures.rule _ c.from_residual.ensures.1

pub returns-then-is_directory : goal.returns-then-is_directory
returns-then-is_directory c =
    inr (
      places_as c.in_ok-places.places,
      c.in_ok-places.ensures.rule,
      inl (c.if-is_directory.ensures.0 refl, refl),
    )

pub returns-in_err-name : goal.returns-in_err-name
returns-in_err-name c =
    let view = tables_view c.args.saved.now in
    let places = places_as c.in_ok-places.places in
    step_stopped _ (NewNameRule view places.dir c.args.path.now) (LinkRule view c.args.from.now c.args.path.now)
    (λ none. none) (λ refusal stops. inr (places, c.in_ok-places.ensures.rule, inr (isnt c.if-is_directory.ensures, stops)))
    (λ refusal refuses. passed (isnt c.if-is_directory.ensures)
    (behind (places_once view c.args.from.now c.args.path.now) places c.in_ok-places.ensures.rule refuses)) _ c.in_err-name.ensures _
    c.from_residual-in_err-name.ensures.1

pub returns : goal.returns
returns c =
    let places = places_as c.in_ok-places.places in
    let name = c.in_ok-name.ensures in (
      places,
      c.in_ok-places.ensures.rule,
      (
        isnt c.if-is_directory.ensures,
        (name.0, (name.1.0, ap (λ (name : List ℕ). Link places.dir name places.found.object) name.1.1)),
      ),
    )
