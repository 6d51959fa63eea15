-- A world that follows each step of a sweep follows all.
use Rattle.std.proofs.Common.{◌≡◌, ℕ, ◌+◌, ◌<◌, ◌≤◌, List, [], ◌∷◌, ◌++◌, length, take, drop, get_or, map, Result, Ok, Err, refl, sym, ap, subst, ◌∙◌, arith}
use Rattle.std.proofs.Common.{append_assoc}
use Rattle.std.specs.Prelude.{IfOk}
use Rattle.std.proofs.lemmas.List.{take_all, take_more, take-append-drop, get_or-map, length-map}
use Rattle.ficus_disk.specs.declared.disk.Disk.{Ghosts as Disk}
use Rattle.ficus_disk.specs.declared.pair.Pair.{Pair}
use Rattle.ficus_ids.specs.declared.refusal.Refusal.{Refusal}
use Rattle.ficus_keeper.specs.declared.keep.Keep.{Ghosts as Keep}
use Rattle.ficus_model.specs.Lawful.{Volume}
use Rattle.ficus_runs.specs.Answers.{answer_as}
use Rattle.ficus_runs.specs.ModelWorld.{ModelWorld}
use Rattle.ficus_runs.specs.Run.{Does}
use Rattle.ficus_runs.specs.Sequence.{Effect, unchanged}
use Rattle.ficus_runs.specs.Sequence.ByRule.{Says}
use Rattle.ficus_runs.specs.Sequence.CutFirst.{InFirst}
use Rattle.ficus_script.specs.declared.command.Command.{Command}
use Rattle.ficus_script.specs.declared.answer.Answer.{Answer}
use Rattle.ficus_script.specs.declared.answer.Answer.TheVariants as answer
use Rattle.ficus_runs.specs.Sweep.{Collecting, DoesSweepPart, DoesSweepStep, Pulling, SweepStep, Swept, Sweeps, SweepsPart, command_of, none_swept, sweep_steps, with_answer}
use Rattle.ficus_script.specs.declared.order.Order.{Order}
use Rattle.ficus_runs.proofs.SweepSteps.{of_command, of_part}
use Rattle.ficus_runs.proofs.sweeps.Adding.{pull_adds, collect_adds}
use Rattle.ficus_runs.proofs.sweeps.Chains.{sweeps_push, sweeps_end, sweeps_cut}
use Rattle.ficus_runs.proofs.sweeps.Whole.{all_swept}
use Rattle.ficus_world.specs.Follows.{FollowsOn, StopsOn, TellsFor}
use Rattle.ficus_world.specs.World.{Whole, WorldStandsFor}
use Rattle.ficus_world.proofs.Disks.{follows_then}
use Rattle.ficus_world.proofs.Fuses.{permit_then}
use Rattle.ficus_world.proofs.Lifting.Outcomes.{both_caused}
use Rattle.ficus_loop.specs.declared.sweep_fault.SweepFault.{SweepFault}
use Rattle.ficus_loop.specs.declared.sweep_fault.SweepFault.TheVariants.{Stopped, Memory}
use Rattle.ficus_loop.specs.declared.sweep_report.SweepReport.{SweepReport}
use Rattle.ficus_loop.proofs.Actions.{effect_of, nothing_follows, nothing_stops, then_follows}
use Rattle.ficus_loop.specs.SweepFollows.{FollowsAction, StopsAction, FollowsStep, FollowsSweep, LeavesSwept, ReportsSo, swept_of}

-- a step that is done isn't answered with a refusal
gives_no_refusal : (volume : Volume) (W : ModelWorld) (step : SweepStep) (given : Answer) (left : Effect ModelWorld)
    → DoesSweepStep volume step W (Ok given) left → (refusal : Refusal) → given ≡ answer.Refused refusal → ⊥
gives_no_refusal volume W (Pulling by to) given left does refusal same =
    let done = (pull_adds volume W by to given left does).done in cc
gives_no_refusal volume W (Collecting by) given left does refusal same =
    let counted = (collect_adds volume W by given left does).counted in cc

-- one step more of a list of them
more_taken : (steps : List SweepStep) (index : ℕ) (step : SweepStep) → index < length steps
    → step ≡ get_or steps index (Collecting 0) → take (index + 1) steps ≡ take index steps ++ step ∷ []
more_taken steps index step within is =
    take_more steps index (Collecting 0) within ∙ ap (λ s. take index steps ++ s ∷ []) (sym is)

split : (steps : List SweepStep) (index : ℕ) (step : SweepStep) → index < length steps
    → step ≡ get_or steps index (Collecting 0) → steps ≡ take index steps ++ step ∷ drop (index + 1) steps
split steps index step within is =
    sym (take-append-drop (index + 1) steps)
    ∙ ap (λ l. l ++ drop (index + 1) steps) (more_taken steps index step within is)
    ∙ append_assoc (take index steps) (step ∷ []) (drop (index + 1) steps)

-- the commands of some steps
pub step_is : (steps : List Command) (some : List SweepStep) (index : ℕ) (command : Command)
    → steps ≡ map command_of some → index < length steps → command ≡ get_or steps index command
    → command ≡ command_of (get_or some index (Collecting 0))
step_is steps some index command same within is =
    let inside : index < length some = omega (arith, within, ap length same, length-map some command_of) in
    is ∙ ap (λ l. get_or l index command) same ∙ get_or-map command_of some index (Collecting 0) command inside

pub within_steps : (steps : List Command) (some : List SweepStep) (index : ℕ) → steps ≡ map command_of some
    → index < length steps → index < length some
within_steps steps some index same within = omega (arith, within, ap length same, length-map some command_of)

pub all_taken : (steps : List Command) (some : List SweepStep) (index : ℕ) → steps ≡ map command_of some
    → length steps ≤ index → take index some ≡ some
all_taken steps some index same past =
    take_all index some (omega (arith, past, ap length same, length-map some command_of))

-- a step asks nothing more of the disks
pub tells_for : (tells : Type 0) (step : SweepStep) (command : Command) → command ≡ command_of step
    → TellsFor tells command
tells_for tells step command same = subst (TellsFor tells) (sym same) (go step)
  where
    go : (step : SweepStep) → TellsFor tells (command_of step)
    go (Pulling by to) = λ none. absurd none
    go (Collecting by) = λ none. absurd none

nothing_swept : (volume : Volume) (steps : List SweepStep) (W : ModelWorld) → SweepsPart volume steps W (unchanged W)
nothing_swept volume [] W = refl
nothing_swept volume (Pulling by to ∷ steps) W = InFirst (InFirst refl)
nothing_swept volume (Collecting by ∷ steps) W = InFirst refl

module _ {K D : Type 0} {keep : Keep K} {disk : Disk D} {volume : Volume} where
  -- no step
  pub no_steps : (W : ModelWorld) (world : Whole) (disks : List (Pair D)) → WorldStandsFor volume W world
      → FollowsAction keep disk volume W world (Sweeps volume [] none_swept) (Ok none_swept) world disks disks
  no_steps W world disks stands =
      nothing_follows (Sweeps volume [] none_swept) (Ok none_swept) W world disks stands (Says refl)

  -- memory is refused before the first
  pub stops_first : (steps : List SweepStep) (W : ModelWorld) (world : Whole) (disks : List (Pair D))
      → WorldStandsFor volume W world → StopsAction keep disk volume W world (SweepsPart volume steps) world disks disks
  stops_first steps W world disks stands =
      nothing_stops (SweepsPart volume steps) W world disks stands (nothing_swept volume steps W)

  module _ {W : ModelWorld} {before middle new : Whole} {old_disks mid_disks new_disks : List (Pair D)}
      (steps : List SweepStep) (step : SweepStep) (swept : Swept)
      (first : FollowsAction keep disk volume W before (Sweeps volume steps none_swept) (Ok swept) middle old_disks
      mid_disks) where
    -- one step more
    pub one_more : (given : Answer)
        → FollowsAction keep disk volume first.follows.after middle (DoesSweepStep volume step) (Ok given) new mid_disks
        new_disks
        → FollowsAction keep disk volume W before (Sweeps volume (steps ++ step ∷ []) none_swept)
        (Ok (with_answer swept given)) new old_disks new_disks
    one_more given behind =
        then_follows (Sweeps volume (steps ++ step ∷ []) none_swept) (Ok (with_answer swept given)) first behind
        (sweeps_push volume steps step none_swept swept given W (effect_of first) (effect_of behind) first.follows.does
        behind.follows.does)

    -- a step that is refused
    pub one_refused : (more : List SweepStep) (refusal : Refusal)
        → FollowsAction keep disk volume first.follows.after middle (DoesSweepStep volume step) (Err refusal) new
        mid_disks new_disks
        → FollowsAction keep disk volume W before (Sweeps volume (steps ++ step ∷ more) none_swept) (Err refusal) new
        old_disks new_disks
    one_refused more refusal behind =
        then_follows (Sweeps volume (steps ++ step ∷ more) none_swept) (Err refusal) first behind
        (sweeps_end volume steps step more none_swept swept refusal W (effect_of first) (effect_of behind)
        first.follows.does behind.follows.does)

    -- a step in which memory is refused
    pub one_cut : (more : List SweepStep)
        → StopsAction keep disk volume first.follows.after middle (DoesSweepPart volume step) new mid_disks new_disks
        → StopsAction keep disk volume W before (SweepsPart volume (steps ++ step ∷ more)) new old_disks new_disks
    one_cut more behind = record {
      outcomes = first.outcomes ++ behind.outcomes;
      stops = record {
        after = behind.stops.after;
        does = sweeps_cut volume steps step more none_swept swept W (effect_of first)
            (record { outcomes = behind.outcomes; after = behind.stops.after }) first.follows.does behind.stops.does;
        caused = both_caused first.outcomes behind.outcomes first.follows.caused behind.stops.caused;
        stored = omega (arith, first.follows.stored, behind.stops.stored);
        stands = behind.stops.stands;
      };
      disks = follows_then first.disks behind.disks;
      fuses = permit_then first.fuses behind.fuses;
    }

  -- what the world's step ensures of a command, of a step of a sweep
  module _ {W : ModelWorld} {old new : Whole} {old_disks new_disks : List (Pair D)} (step : SweepStep) where
    on_result : (given : Answer) (on : FollowsOn keep disk volume W old (command_of step) given new old_disks new_disks)
        → (result : Result Answer Refusal) → on.follows.step.result ≡ result
        → FollowsAction keep disk volume W old (DoesSweepStep volume step) result new old_disks new_disks
    on_result given on result is = record {
      outcomes = on.outcomes;
      follows = record {
        after = on.follows.after;
        does = of_command volume step W result (record { outcomes = on.outcomes; after = on.follows.after })
            (subst (λ r. Does volume (command_of step) W r
            (record { outcomes = on.outcomes; after = on.follows.after })) is on.follows.step.does);
        caused = on.follows.caused;
        stored = on.follows.stored;
        stands = on.follows.stands;
      };
      disks = on.disks;
      fuses = on.fuses;
    }

    -- where the step gives an answer, it is reported; where it is refused, so is the sweep
    reported : (before : SweepReport) (given : Answer) → ((refusal : Refusal) → given ≡ answer.Refused refusal → ⊥)
        → (result : Result SweepReport SweepFault) → ReportsSo before given result
        → FollowsAction keep disk volume W old (DoesSweepStep volume step) (Ok given) new old_disks new_disks
        → FollowsStep keep disk volume W old step (swept_of before) result new old_disks new_disks
    reported before (answer.Refused refusal) none result reports action = absurd (none refusal refl)
    reported before other none (Ok more) reports action = (other, reports, action)
    reported before other none (Err fault) reports action = absurd reports

    refused : (before : SweepReport) (given : Answer) (refusal : Refusal) → given ≡ answer.Refused refusal
        → (result : Result SweepReport SweepFault) → ReportsSo before given result
        → FollowsAction keep disk volume W old (DoesSweepStep volume step) (Err refusal) new old_disks new_disks
        → FollowsStep keep disk volume W old step (swept_of before) result new old_disks new_disks
    refused before given refusal is result reports action =
        let stopped : result ≡ Err (Stopped refusal) = subst (λ a. ReportsSo before a result) is reports in
        subst (λ r. FollowsStep keep disk volume W old step (swept_of before) r new old_disks new_disks) (sym stopped)
        action

    pub step_follows : (before : SweepReport) (given : Answer) (result : Result SweepReport SweepFault)
        → FollowsOn keep disk volume W old (command_of step) given new old_disks new_disks
        → ReportsSo before given result
        → FollowsStep keep disk volume W old step (swept_of before) result new old_disks new_disks
    step_follows before given result on reports = go on.follows.step.result refl
      where
        answer_is : (came : Result Answer Refusal) → on.follows.step.result ≡ came → given ≡ answer_as came
        answer_is came is = on.follows.step.answer_is ∙ ap answer_as is

        go : (came : Result Answer Refusal) → on.follows.step.result ≡ came
            → FollowsStep keep disk volume W old step (swept_of before) result new old_disks new_disks
        go (Ok found) is =
            let action = on_result given on (Ok found) is in
            let same : given ≡ found = answer_is (Ok found) is in
            reported before found
            (gives_no_refusal volume W step found (effect_of action) action.follows.does)
            result (subst (λ a. ReportsSo before a result) same reports) action
        go (Err refusal) is =
            refused before given refusal (answer_is (Err refusal) is) result reports (on_result given on (Err refusal) is)

    pub step_stops : StopsOn keep disk volume W old (command_of step) new old_disks new_disks
        → StopsAction keep disk volume W old (DoesSweepPart volume step) new old_disks new_disks
    step_stops on = record {
      outcomes = on.outcomes;
      stops = record {
        after = on.stops.after;
        does = of_part volume step W (record { outcomes = on.outcomes; after = on.stops.after }) on.stops.does;
        caused = on.stops.caused;
        stored = on.stops.stored;
        stands = on.stops.stands;
      };
      disks = on.disks;
      fuses = on.fuses;
    }

  -- one step more of a list of them, whatever came of it
  module _ {W : ModelWorld} {before middle new : Whole} {old_disks mid_disks new_disks : List (Pair D)}
      (steps : List SweepStep) (index : ℕ) (step : SweepStep) (within : index < length steps)
      (is : step ≡ get_or steps index (Collecting 0)) (report : SweepReport)
      (first : FollowsAction keep disk volume W before (Sweeps volume (take index steps) none_swept)
      (Ok (swept_of report)) middle old_disks mid_disks)
      (result : Result SweepReport SweepFault)
      (serve : FollowsStep keep disk volume first.follows.after middle step (swept_of report) result new mid_disks
      new_disks) where
    pub next_step : (more : SweepReport) → result ≡ Ok more
        → FollowsAction keep disk volume W before (Sweeps volume (take (index + 1) steps) none_swept)
        (Ok (swept_of more)) new old_disks new_disks
    next_step more same =
        let found = subst (λ r. FollowsStep keep disk volume first.follows.after middle step (swept_of report) r new
        mid_disks new_disks) same serve in
        subst (λ some. FollowsAction keep disk volume W before (Sweeps volume some none_swept) (Ok (swept_of more)) new
        old_disks new_disks) (sym (more_taken steps index step within is))
        (subst (λ swept. FollowsAction keep disk volume W before
        (Sweeps volume (take index steps ++ step ∷ []) none_swept) (Ok swept) new old_disks new_disks) (sym found.1)
        (one_more (take index steps) step (swept_of report) first found.0 found.2))

    refused_step : (refusal : Refusal) → result ≡ Err (Stopped refusal)
        → FollowsAction keep disk volume W before (Sweeps volume steps none_swept) (Err refusal) new old_disks new_disks
    refused_step refusal same =
        let found = subst (λ r. FollowsStep keep disk volume first.follows.after middle step (swept_of report) r new
        mid_disks new_disks) same serve in
        subst (λ some. FollowsAction keep disk volume W before (Sweeps volume some none_swept) (Err refusal) new
        old_disks new_disks) (sym (split steps index step within is))
        (one_refused (take index steps) step (swept_of report) first (drop (index + 1) steps) refusal found)

    cut_step : result ≡ Err Memory
        → StopsAction keep disk volume W before (SweepsPart volume steps) new old_disks new_disks
    cut_step same =
        let found = subst (λ r. FollowsStep keep disk volume first.follows.after middle step (swept_of report) r new
        mid_disks new_disks) same serve in
        subst (λ some. StopsAction keep disk volume W before (SweepsPart volume some) new old_disks new_disks)
        (sym (split steps index step within is))
        (one_cut (take index steps) step (swept_of report) first (drop (index + 1) steps) found)

  -- the step that is refused, or in which memory is, is the last
  pub last_step : (W : ModelWorld) (before middle new : Whole) (old_disks mid_disks new_disks : List (Pair D))
      (steps : List SweepStep) (index : ℕ) (step : SweepStep) → index < length steps
      → step ≡ get_or steps index (Collecting 0)
      → (report : SweepReport)
      → (first : FollowsAction keep disk volume W before (Sweeps volume (take index steps) none_swept)
      (Ok (swept_of report)) middle old_disks mid_disks)
      → (fault : SweepFault)
      → FollowsStep keep disk volume first.follows.after middle step (swept_of report) (Err fault) new mid_disks new_disks
      → FollowsSweep keep disk volume W before steps (Err fault) new old_disks new_disks
  last_step W before middle new old_disks mid_disks new_disks steps index step within is report first
      (Stopped refusal) serve =
      refused_step steps index step within is report first (Err (Stopped refusal)) serve refusal refl
  last_step W before middle new old_disks mid_disks new_disks steps index step within is report first Memory serve =
      cut_step steps index step within is report first (Err Memory) serve refl

  -- a sweep that met no refusal has swept
  pub leaves_swept : (order : Order) (W : ModelWorld) (old new : Whole) (swept : Swept)
      (old_disks new_disks : List (Pair D)) → WorldStandsFor volume W old
      → FollowsAction keep disk volume W old (Sweeps volume (sweep_steps order volume.members) none_swept) (Ok swept) new
      old_disks new_disks → LeavesSwept volume new
  leaves_swept order W old new swept old_disks new_disks stands on = record {
    after = on.follows.after;
    stands = on.follows.stands;
    swept = all_swept volume order W swept (effect_of on) stands.count.at_least stands.lawful on.follows.does;
  }

pub swept_of_result : {K D : Type 0} (keep : Keep K) (disk : Disk D) (volume : Volume) (order : Order)
    (W : ModelWorld) (old new : Whole) (old_disks new_disks : List (Pair D)) → WorldStandsFor volume W old
    → (result : Result SweepReport SweepFault)
    → FollowsSweep keep disk volume W old (sweep_steps order volume.members) result new old_disks new_disks
    → IfOk result (λ report. LeavesSwept volume new)
swept_of_result keep disk volume order W old new old_disks new_disks stands (Ok report) on =
    leaves_swept order W old new (swept_of report) old_disks new_disks stands on
swept_of_result keep disk volume order W old new old_disks new_disks stands (Err fault) on = tt
