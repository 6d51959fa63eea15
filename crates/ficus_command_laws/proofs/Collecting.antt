-- A second collection straight behind one of the same member is answered with nothing.
use Rattle.std.proofs.Common.{◌≡◌, ℕ, List, [], ◌∷◌, ◌++◌, Result, Ok, Err, refl, sym, ap, subst, ◌∙◌}
use Rattle.ficus_ids.specs.Members.{IsMember}
use Rattle.ficus_ids.specs.declared.refusal.Refusal.{Refusal}
use Rattle.ficus_ids.specs.declared.refusal.Refusal.TheVariants as refusal
use Rattle.ficus_model.specs.declared.event.Event.TheVariants.{Collect}
use Rattle.ficus_model.specs.Lawful.{Volume}
use Rattle.ficus_replica.specs.Collect.{Garbage, IsGarbage}
use Rattle.ficus_script.specs.declared.answer.Answer.{Answer}
use Rattle.ficus_script.specs.declared.answer.Answer.TheVariants.{Collected}
use Rattle.ficus_script.specs.declared.command.Command.TheVariants as command
use Rattle.ficus_standing_laws.proofs.GivingUp.{second_gives_nothing}
use Rattle.ficus_runs.specs.Actions.{AtMember, Collects, Counts, Wants}
use Rattle.ficus_runs.specs.Actions.Saves.{Saved, NotSaved}
use Rattle.ficus_runs.specs.Answers.{answer_as}
use Rattle.ficus_runs.specs.ModelWorld.{ModelWorld}
use Rattle.ficus_runs.specs.Outcome.{Outcome}
use Rattle.ficus_runs.specs.Run.{Does, Step}
use Rattle.ficus_runs.specs.Sequence.{Effect, First, joined, unchanged}
use Rattle.ficus_runs.specs.Sequence.First.{Ends, Goes}
use Rattle.ficus_runs.specs.Sequence.ByRule.{Says}
use Rattle.ficus_command_laws.proofs.Idle.{at_member_idle}

-- a collection that was answered: so much was given up, and it has happened
pub record IsCollected (volume : Volume) (by : ℕ) (W : ModelWorld) (answer : Answer) (after : ModelWorld) : Type 0 where
  pub garbage : Garbage
  pub member : IsMember volume.members by
  pub is : IsGarbage volume.members W.events by garbage
  pub told : answer ≡ Collected garbage.entries garbage.objects
  pub happened : after.events ≡ W.events ++ Collect by ∷ []

module _ (volume : Volume) (by : ℕ) where
  -- of an answer; a refusal says nothing
  abbrev Comes : ModelWorld → Result Answer Refusal → Effect ModelWorld → Type 0
  Comes W (Ok answer) left = IsCollected volume by W answer left.after
  Comes W (Err refusal) left = Unit {0}

  abbrev IsMemberIf : Result (Unit {0}) Refusal → Type 0
  IsMemberIf (Ok given) = IsMember volume.members by
  IsMemberIf (Err refusal) = Unit {0}

  member_if : (result : Result (Unit {0}) Refusal) → IsMember volume.members by → IsMemberIf result
  member_if (Ok given) member = member
  member_if (Err refusal) member = tt

  wants_member : (W : ModelWorld) (result : Result (Unit {0}) Refusal) (left : Effect ModelWorld) →
      Wants (λ (V : ModelWorld). IsMember volume.members by) refusal.Member W result left → IsMemberIf result
  wants_member W (Ok given) left (Says is) = is.0
  wants_member W (Err other) left does = tt

  at_member : (W : ModelWorld) (result : Result (Unit {0}) Refusal) (left : Effect ModelWorld) →
      AtMember volume by W result left → IsMemberIf result
  at_member W result left (Ends is) = tt
  at_member W result left (Goes {a = a} {middle = m} is next) = member_if result (wants_member W (Ok a) m is)

  -- so much is given up, where it is counted
  record IsCounted (W : ModelWorld) (answer : Answer) (left : Effect ModelWorld) : Type 0 where
    garbage : Garbage
    is : IsGarbage volume.members W.events by garbage
    told : answer ≡ Collected garbage.entries garbage.objects
    same : left ≡ unchanged W

  counted : (W : ModelWorld) (answer : Answer) (left : Effect ModelWorld) → Counts volume by W (Ok answer) left →
      IsCounted W answer left
  counted W answer left (Says is) = record { garbage = is.0; is = is.1; told = is.2; same = refl }

  saved : (W V : ModelWorld) (answer : Answer) (counts : Effect ModelWorld) (result : Result Answer Refusal)
      (left : Effect ModelWorld) → IsMember volume.members by → IsCounted W answer counts → V ≡ W →
      Collects by answer V result left → Comes W result left
  saved W V answer counts result left member is same Saved = record {
    garbage = is.garbage;
    member = member;
    is = is.is;
    told = is.told;
    happened = ap (λ (world : ModelWorld). world.events ++ Collect by ∷ []) same;
  }
  saved W V answer counts result left member is same NotSaved = tt

  joined_comes : (W : ModelWorld) (result : Result Answer Refusal) (first left : Effect ModelWorld) →
      Comes W result left → Comes W result (joined first left)
  joined_comes W (Ok answer) first left comes = comes
  joined_comes W (Err refusal) first left comes = tt

  collects : (W V : ModelWorld) (result : Result Answer Refusal) (left : Effect ModelWorld) →
      IsMember volume.members by → V ≡ W → First (Counts volume by) (Collects by) V result left → Comes W result left
  collects W V result left member same (Ends is) = tt
  collects W V result left member same (Goes {a = answer} {middle = m} {left = l} counts saves) =
      let here = counted V answer m counts in
      let is : IsCounted W answer (unchanged W) = record {
        garbage = here.garbage;
        is = subst (λ (world : ModelWorld). IsGarbage volume.members world.events by here.garbage) same here.is;
        told = here.told;
        same = refl;
      } in
      joined_comes W result m l (saved W m.after answer (unchanged W) result l member is
      (ap (λ (e : Effect ModelWorld). e.after) here.same ∙ same) saves)

  comes : (W : ModelWorld) (result : Result Answer Refusal) (left : Effect ModelWorld) →
      Does volume (command.Collect by) W result left → Comes W result left
  comes W result left (Ends is) = tt
  comes W result left (Goes {a = a} {middle = m} {left = l} at rest) =
      let same : m.after ≡ W =
      ap (λ (e : Effect ModelWorld). e.after) (at_member_idle volume by W (Ok a) m at) in
      joined_comes W result m l (collects W m.after result l (at_member W (Ok a) m at) same rest)

  of_step : (W after : ModelWorld) (outcomes : List Outcome) (entries objects : ℕ) →
      Step volume W (command.Collect by) outcomes (Collected entries objects) after →
      IsCollected volume by W (Collected entries objects) after
  of_step W after outcomes entries objects step = go step.result step.answer_is
      (comes W step.result (record { outcomes = outcomes; after = after }) step.does)
    where
      go : (result : Result Answer Refusal) → Collected entries objects ≡ answer_as result →
          Comes W result (record { outcomes = outcomes; after = after }) →
          IsCollected volume by W (Collected entries objects) after
      go (Ok given) is comes = subst (λ answer. IsCollected volume by W answer after) (sym is) comes
      go (Err refused) is comes = absurd cc

pub second_collects_nothing : (volume : Volume) (W middle after : ModelWorld) (by entries objects again files : ℕ)
    (outcomes more : List Outcome) → Step volume W (command.Collect by) outcomes (Collected entries objects) middle →
    Step volume middle (command.Collect by) more (Collected again files) after → (again ≡ 0) × (files ≡ 0)
second_collects_nothing volume W middle after by entries objects again files outcomes more first second =
    let one = of_step volume by W middle outcomes entries objects first in
    let two = of_step volume by middle after more again files second in
    let none : two.garbage ≡ record { entries = 0; objects = 0 } =
    second_gives_nothing volume.members W.events by two.garbage one.member
    (subst (λ H. IsGarbage volume.members H by two.garbage) one.happened two.is) in
    let count : again ≡ two.garbage.entries = let e = two.told in cc in
    let count_too : files ≡ two.garbage.objects = let e = two.told in cc in (
      count ∙ ap (λ (g : Garbage). g.entries) none,
      count_too ∙ ap (λ (g : Garbage). g.objects) none,
    )
