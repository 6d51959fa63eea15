use Rattle.std.proofs.Common.{refl, inl, inr}
use Rattle.ficus_model.specs.declared.event.Op.TheVariants.{Move}
use Rattle.ficus_rules.specs.Rename.{RenameRule}
use Rattle.ficus_rules.specs.Walk.{PlacesRule}
use Rattle.ficus_rules.proofs.Rules.{behind, passed}
use Rattle.ficus_rules.proofs.Walks.{places_never, places_once}
use Rattle.ficus_deciding.specs.Files.{places_as}
use Rattle.ficus_deciding.specs.NewName.{NewNameRule}
use Rattle.ficus_deciding.specs.View.{tables_view}
use Rattle.ficus_deciding.proofs.Refusals.{isnt, step_stopped, stopped, wanted}
use Rattle.ficus_deciding.proofs.renaming.rename.Goals as goal

pub returns-in_err-places : goal.returns-in_err-places
returns-in_err-places c =
    let view = tables_view c.args.saved.now in
    let from = c.args.from.now in
    let path = c.args.path.now in
    stopped _ (PlacesRule view from path) (RenameRule view from path) (places_never view from path)
    (λ refusal stops. inl stops) _ c.in_err-places.ensures.rule _ c.from_residual.ensures.1

pub returns-in_err-is_within : goal.returns-in_err-is_within
returns-in_err-is_within c =
    let view = tables_view c.args.saved.now in
    wanted _ (RenameRule view c.args.from.now c.args.path.now) _ c.from_residual-in_err-is_within.ensures.1
    (inr (record {
      places = places_as c.in_ok-places.places;
      walked = c.in_ok-places.ensures.rule;
      directory = c.in_err-is_within.ensures.memory;
    }))

pub returns-then-branch : goal.returns-then-branch
returns-then-branch c =
    inr (
      places_as c.in_ok-places.places,
      c.in_ok-places.ensures.rule,
      inl (c.in_ok-is_within.ensures.within.0 c.if-branch.true, refl),
    )

pub returns-in_err-name : goal.returns-in_err-name
returns-in_err-name c =
    let view = tables_view c.args.saved.now in
    let places = places_as c.in_ok-places.places in
    let outside = isnt (rw c.if-branch.false at c.in_ok-is_within.ensures.within) in
    step_stopped _ (NewNameRule view places.dir c.args.path.now) (RenameRule view c.args.from.now c.args.path.now) inl
    (λ refusal stops. inr (places, c.in_ok-places.ensures.rule, inr (outside, stops)))
    (λ refusal refuses. passed outside
    (behind (places_once view c.args.from.now c.args.path.now) places c.in_ok-places.ensures.rule refuses)) _ c.in_err-name.ensures _
    c.from_residual-in_err-name.ensures.1

pub returns-in_err-entries : goal.returns-in_err-entries
returns-in_err-entries c =
    let view = tables_view c.args.saved.now in
    let from = c.args.from.now in
    let path = c.args.path.now in
    let outside = isnt (rw c.if-branch.false at c.in_ok-is_within.ensures.within) in
    wanted _ (RenameRule view from path) _ c.from_residual-in_err-entries.ensures.1
    (inl (λ refusal refuses. passed c.in_ok-name.ensures.1.0 (passed c.in_ok-name.ensures.0 (passed outside
    (behind (places_once view from path) (places_as c.in_ok-places.places) c.in_ok-places.ensures.rule refuses)))))

pub returns : goal.returns
returns c =
    let places = places_as c.in_ok-places.places in
    let outside = isnt (rw c.if-branch.false at c.in_ok-is_within.ensures.within) in
    let name = c.in_ok-name.ensures in
    let listed = rw c.last_name-old.ensures at c.in_ok-entries.ensures in (
      places,
      c.in_ok-places.ensures.rule,
      (
        outside,
        (
          name.0,
          (
            name.1.0,
            (
              c.in_ok-entries.entries.items,
              listed,
              λ i. Move (c.of.ensures i) places.dir (name.1.1 i) places.found.object,
            ),
          ),
        ),
      ),
    )
