-- Which events the steps of a sweep add, one after the other.
use Rattle.std.proofs.Common.{◌≡◌, ℕ, List, [], ◌∷◌, ◌++◌, Ok, Err, sym, ap, subst, append-nil, append_assoc}
use Rattle.ficus_ids.specs.declared.refusal.Refusal.{Refusal}
use Rattle.ficus_model.specs.declared.event.Event.{Event}
use Rattle.ficus_model.specs.declared.event.Event.TheVariants as event
use Rattle.ficus_model.specs.Lawful.{Volume}
use Rattle.ficus_laws.specs.Accepts.{pulled}
use Rattle.ficus_script.specs.declared.answer.Answer.{Answer}
use Rattle.ficus_runs.specs.ModelWorld.{ModelWorld}
use Rattle.ficus_runs.specs.Sequence.{Effect, joined, unchanged}
use Rattle.ficus_runs.specs.Sequence.First.{Ends, Goes}
use Rattle.ficus_runs.specs.Sequence.ByRule.{Says}
use Rattle.ficus_runs.specs.Sequence.CutFirst.{InFirst, InRest}
use Rattle.ficus_runs.specs.Sweep.{SweepStep, Pulling, Collecting, DoesSweepPart, DoesSweepStep, Swept, with_answer, Sweeps, SweepsPart}
use Rattle.ficus_runs.proofs.sweeps.Adding.{pull_adds, collect_adds}

-- the history once a step was taken,
pub data StepAdded (H : List Event) : SweepStep → List Event → Type 0 where
  PullAdded : {by to : ℕ} (last : ℕ) → StepAdded H (Pulling by to) (pulled H by to last)
  CollectAdded : {by : ℕ} → StepAdded H (Collecting by) (H ++ event.Collect by ∷ [])

-- and once some were
pub data StepsAdded : List Event → List SweepStep → List Event → Type 0 where
  Nothing : {H : List Event} → StepsAdded H [] H
  Further : {H M K : List Event} {step : SweepStep} {steps : List SweepStep} → StepAdded H step M
      → StepsAdded M steps K → StepsAdded H (step ∷ steps) K

-- between some steps and those behind them stands a history
pub record AddedBoth (H : List Event) (steps more : List SweepStep) (K : List Event) : Type 0 where
  pub middle : List Event
  pub first : StepsAdded H steps middle
  pub rest : StepsAdded middle more K

pub added_append : (H : List Event) (steps more : List SweepStep) (K : List Event) → StepsAdded H (steps ++ more) K
    → AddedBoth H steps more K
added_append H [] more K added = record { middle = H; first = Nothing; rest = added }
added_append H (step ∷ steps) more K (Further {M = M} one rest) =
    let both = added_append M steps more K rest in
    record { middle = both.middle; first = Further one both.first; rest = both.rest }

step_adds : (volume : Volume) (W : ModelWorld) (step : SweepStep) (given : Answer) (left : Effect ModelWorld)
    → DoesSweepStep volume step W (Ok given) left → StepAdded W.events step left.after.events
step_adds volume W (Pulling by to) given left does =
    let pull = pull_adds volume W by to given left does in
    subst (StepAdded W.events (Pulling by to)) (sym pull.events) (PullAdded pull.last)
step_adds volume W (Collecting by) given left does =
    subst (StepAdded W.events (Collecting by)) (sym (collect_adds volume W by given left does).events) CollectAdded

-- a sweep that met no refusal has added what its steps add
pub sweep_adds : (volume : Volume) (steps : List SweepStep) (before after : Swept) (W : ModelWorld)
    (left : Effect ModelWorld) → Sweeps volume steps before W (Ok after) left
    → StepsAdded W.events steps left.after.events
sweep_adds volume [] before after W left (Says given) = Nothing
sweep_adds volume (step ∷ steps) before after W left (Goes {a = answer} {middle = m} {left = l} does rest) =
    Further (step_adds volume W step answer m does)
    (sweep_adds volume steps (with_answer before answer) after m.after l rest)

pub then_nothing : (left : Effect ModelWorld) → joined left (unchanged left.after) ≡ left
then_nothing left = λ i. record { outcomes = append-nil left.outcomes i; after = left.after }

pub joined_assoc : (one other last : Effect ModelWorld)
    → joined (joined one other) last ≡ joined one (joined other last)
joined_assoc one other last =
    λ i. record { outcomes = append_assoc one.outcomes other.outcomes last.outcomes i; after = last.after }

module _ (volume : Volume) where
  -- one step more
  pub sweeps_push : (steps : List SweepStep) (step : SweepStep) (before after : Swept) (answer : Answer)
      (W : ModelWorld) (middle left : Effect ModelWorld) → Sweeps volume steps before W (Ok after) middle
      → DoesSweepStep volume step middle.after (Ok answer) left
      → Sweeps volume (steps ++ step ∷ []) before W (Ok (with_answer after answer)) (joined middle left)
  sweeps_push [] step before after answer W middle left (Says given) does =
      subst (λ (effect : Effect ModelWorld). Sweeps volume (step ∷ []) before W (Ok (with_answer after answer)) effect)
      (then_nothing left)
      (Goes does (Says (ap (λ swept. with_answer swept answer) given)))
  sweeps_push (first ∷ steps) step before after answer W middle left
      (Goes {a = a} {middle = m} {left = l} begins rest) does =
      subst (λ (effect : Effect ModelWorld).
      Sweeps volume (first ∷ (steps ++ step ∷ [])) before W (Ok (with_answer after answer)) effect)
      (sym (joined_assoc m l left))
      (Goes begins (sweeps_push steps step (with_answer before a) after answer m.after l left rest does))

  -- a step is refused
  pub sweeps_end : (steps : List SweepStep) (step : SweepStep) (more : List SweepStep) (before after : Swept)
      (refusal : Refusal) (W : ModelWorld) (middle left : Effect ModelWorld)
      → Sweeps volume steps before W (Ok after) middle → DoesSweepStep volume step middle.after (Err refusal) left
      → Sweeps volume (steps ++ step ∷ more) before W (Err refusal) (joined middle left)
  sweeps_end [] step more before after refusal W middle left (Says given) does = Ends does
  sweeps_end (first ∷ steps) step more before after refusal W middle left
      (Goes {a = a} {middle = m} {left = l} begins rest) does =
      subst (λ (effect : Effect ModelWorld).
      Sweeps volume (first ∷ (steps ++ step ∷ more)) before W (Err refusal) effect) (sym (joined_assoc m l left))
      (Goes begins (sweeps_end steps step more (with_answer before a) after refusal m.after l left rest does))

  -- memory is refused in a step
  pub sweeps_cut : (steps : List SweepStep) (step : SweepStep) (more : List SweepStep) (before after : Swept)
      (W : ModelWorld) (middle left : Effect ModelWorld) → Sweeps volume steps before W (Ok after) middle
      → DoesSweepPart volume step middle.after left
      → SweepsPart volume (steps ++ step ∷ more) W (joined middle left)
  sweeps_cut [] step more before after W middle left (Says given) part = InFirst part
  sweeps_cut (first ∷ steps) step more before after W middle left
      (Goes {a = a} {middle = m} {left = l} begins rest) part =
      subst (λ (effect : Effect ModelWorld). SweepsPart volume (first ∷ (steps ++ step ∷ more)) W effect)
      (sym (joined_assoc m l left))
      (InRest begins (sweeps_cut steps step more (with_answer before a) after m.after l left rest part))
