-- What the code does to a world, the model does to what the world stands for: action by action.
use Rattle.std.proofs.Common.{◌≡◌, ◌+◌, List, [], ◌∷◌, ◌++◌, length, Result, Ok, Err, refl, subst, sym, arith, length-append}
use Rattle.ficus_ids.specs.declared.refusal.Refusal.{Refusal}
use Rattle.ficus_model.specs.Lawful.{Volume}
use Rattle.ficus_model.specs.declared.event.Event.{Event}
use Rattle.ficus_runs.specs.Actions.{ModelAction, GivesOnly}
use Rattle.ficus_runs.specs.ModelWorld.{ModelWorld}
use Rattle.ficus_runs.specs.Sequence.{Cut, CutFirst, Effect, First, NothingDone, unchanged}
use Rattle.ficus_runs.specs.Sequence.ByRule.{Says}
use Rattle.ficus_runs.specs.Sequence.CutFirst.{InFirst, InRest}
use Rattle.ficus_runs.specs.Sequence.First.{Ends, Goes}
use Rattle.ficus_world.specs.Follows.{FollowsIn, FollowsPart}
use Rattle.ficus_world.specs.Moves.{WholeAction}
use Rattle.ficus_world.specs.World.{Whole, WorldStandsFor}
use Rattle.ficus_world.proofs.Lifting.Outcomes.{steady_caused, both_caused}

-- whatever the action does to a world, that of the model does to what the world stands for
abbrev pub Lifts : {A : Type 0} → Volume → WholeAction A → ModelAction A → Type 0
Lifts {A} volume code action =
    (W : ModelWorld) (old : Whole) → WorldStandsFor volume W old → (result : Result A Refusal) (left : Effect Whole)
    → code old result left → FollowsIn volume W old action result left

-- the same where memory is refused on the way
abbrev pub CutLifts : Volume → Cut Whole → Cut ModelWorld → Type 0
CutLifts volume code part =
    (W : ModelWorld) (old : Whole) → WorldStandsFor volume W old → (left : Effect Whole) → code old left
    → FollowsPart volume W old part left

-- one more happens, and is stored
pub one_stored : (H E : List Event) (event stored : Event)
    → length (H ++ event ∷ []) + length E ≡ length H + length (E ++ stored ∷ [])
one_stored H E event stored = omega (arith, length-append H (event ∷ []), length-append E (stored ∷ []))

-- two more
pub two_stored : (H E : List Event) (first second one two : Event)
    → length ((H ++ first ∷ []) ++ second ∷ []) + length E ≡ length H + length ((E ++ one ∷ []) ++ two ∷ [])
two_stored H E first second one two =
    omega (arith, one_stored H E first one, one_stored (H ++ first ∷ []) (E ++ one ∷ []) second two)

module _ (volume : Volume) where
  module _ {A B : Type 0} {code : WholeAction A} {action : ModelAction A} {rest : A → WholeAction B}
      {more : A → ModelAction B} where
    pub first_lifts : Lifts volume code action → ((a : A) → Lifts volume (rest a) (more a))
        → Lifts volume (First code rest) (First action more)
    first_lifts lifts behind W old stands result left (Ends {refusal = r} is) =
        let follows = lifts W old stands (Err r) left is in
        record {
          after = follows.after;
          does = Ends follows.does;
          caused = follows.caused;
          stored = follows.stored;
          stands = follows.stands;
        }
    first_lifts lifts behind W old stands result left (Goes {a = a} {middle = middle} {left = last} is next) =
        let follows = lifts W old stands (Ok a) middle is in
        let then = behind a follows.after middle.after follows.stands result last next in
        record {
          after = then.after;
          does = Goes follows.does then.does;
          caused = both_caused middle.outcomes last.outcomes follows.caused then.caused;
          stored = omega (arith, follows.stored, then.stored);
          stands = then.stands;
        }

  -- what follows the model where it is cut short, follows what does that first
  pub part_first : {A : Type 0} {W : ModelWorld} {old : Whole} {action : ModelAction A} {part : Cut ModelWorld}
      {more : A → Cut ModelWorld} {left : Effect Whole} → FollowsPart volume W old part left
      → FollowsPart volume W old (CutFirst action part more) left
  part_first follows = record {
    after = follows.after;
    does = InFirst follows.does;
    caused = follows.caused;
    stored = follows.stored;
    stands = follows.stands;
  }

  module _ {A : Type 0} {code : WholeAction A} {action : ModelAction A} {cut : Cut Whole} {part : Cut ModelWorld}
      {behind : A → Cut Whole} {more : A → Cut ModelWorld} where
    pub cut_lifts : Lifts volume code action → CutLifts volume cut part
        → ((a : A) → CutLifts volume (behind a) (more a))
        → CutLifts volume (CutFirst code cut behind) (CutFirst action part more)
    cut_lifts lifts cuts later W old stands left (InFirst is) = part_first (cuts W old stands left is)
    cut_lifts lifts cuts later W old stands left (InRest {a = a} {middle = middle} {left = last} is next) =
        let follows = lifts W old stands (Ok a) middle is in
        let then = later a follows.after middle.after follows.stands last next in
        record {
          after = then.after;
          does = InRest follows.does then.does;
          caused = both_caused middle.outcomes last.outcomes follows.caused then.caused;
          stored = omega (arith, follows.stored, then.stored);
          stands = then.stands;
        }

  -- nothing is asked of the outside, and the world stays
  pub stays : {A : Type 0} {action : ModelAction A} {result : Result A Refusal} (W : ModelWorld) (old : Whole)
      → WorldStandsFor volume W old → action W result (unchanged W)
      → FollowsIn volume W old action result (unchanged old)
  stays W old stands does = record {
    after = W;
    does = does;
    caused = steady_caused old.post.faults;
    stored = refl;
    stands = stands;
  }

  pub gives_lifts : {A : Type 0} (a : A) → Lifts volume (GivesOnly a) (GivesOnly a)
  gives_lifts a W old stands result left (Says is) = stays W old stands (Says is)

  pub nothing_lifts : CutLifts volume NothingDone NothingDone
  nothing_lifts W old stands left same =
      subst (λ (e : Effect Whole). FollowsPart volume W old NothingDone e) (sym same) (record {
        after = W;
        does = refl;
        caused = steady_caused old.post.faults;
        stored = refl;
        stands = stands;
      })
