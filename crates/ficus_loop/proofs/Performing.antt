-- Commands that are carried out, by what the members of a world hold: one after the other, and those of a sweep.
use Rattle.std.proofs.Common.{◌≡◌, ℕ, ◌+◌, ◌<◌, List, [], ◌∷◌, ◌++◌, get_or, length, take, drop, Result, Ok, Err, refl, sym, ◌∙◌, ap, subst, inl, inr, append_assoc}
use Rattle.std.specs.Prelude.{false, IfOk, OnErr}
use Rattle.std.proofs.lemmas.List.{take-append-drop}
use Rattle.std.proofs.lemmas.List.Elements.{All-nil, All-push}
use Rattle.std.proofs.lemmas.List.Sums.{fold-append}
use Rattle.ficus_disk.specs.declared.disk.Disk.{Ghosts as Disk}
use Rattle.ficus_disk.specs.declared.pair.Pair.{Pair}
use Rattle.ficus_ids.specs.declared.memory.Memory.{Memory as OutOfMemory}
use Rattle.ficus_keeper.specs.declared.keep.Keep.{Ghosts as Keep}
use Rattle.ficus_runs.specs.Sweep.{Swept, none_swept, with_answer}
use Rattle.ficus_script.specs.declared.answer.Answer.{Answer}
use Rattle.ficus_script.specs.declared.answer.Answer.TheVariants as answer
use Rattle.ficus_script.specs.declared.command.Command.{Command}
use Rattle.ficus_script.specs.declared.command.Command.TheVariants.{Sweep}
use Rattle.ficus_script.specs.declared.order.Order.{Order}
use Rattle.ficus_loop.specs.Performing.{Performs, PerformsAll, PerformsPart, StepsOn, SweepStepsTo, SweepsAll, SweepsTo, SweepsUntil, sweep_commands}
use Rattle.ficus_loop.specs.Performing.Performs.{AsSweep}
use Rattle.ficus_loop.specs.Performing.PerformsAll.{CommandThen, NoCommand}
use Rattle.ficus_loop.specs.Performing.PerformsPart.{PartOfSweep}
use Rattle.ficus_loop.specs.Performing.StepsOn.{NoStep, StepThen}
use Rattle.ficus_loop.specs.SweepFollows.{ReportsSo, swept_of}
use Rattle.ficus_loop.specs.Sweeping.{AnswersSweep}
use Rattle.ficus_loop.specs.Tally.{is_refusal}
use Rattle.ficus_loop.specs.declared.sweep_fault.SweepFault.{SweepFault}
use Rattle.ficus_loop.specs.declared.sweep_fault.SweepFault.TheVariants.{Stopped, Memory}
use Rattle.ficus_loop.specs.declared.sweep_report.SweepReport.{SweepReport}
use Rattle.ficus_world.specs.Stepped.{Stepped}
use Rattle.ficus_world.specs.World.{Whole}
use Rattle.ficus_loop.proofs.Serves.{take_command}

-- a command of a list, between those before it and those behind it
pub split_command : (commands : List Command) (index : ℕ) (command : Command) → index < length commands
    → command ≡ get_or commands index command → commands ≡ take index commands ++ command ∷ drop (index + 1) commands
split_command commands index command within is =
    sym (take-append-drop (index + 1) commands)
    ∙ ap (λ (l : List Command). l ++ drop (index + 1) commands) (take_command commands index command within is)
    ∙ append_assoc (take index commands) (command ∷ []) (drop (index + 1) commands)

module _ {K D : Type 0} {tells : Type 0} {keep : Keep K} {disk : Disk D} where
  -- steps, and then others
  pub steps_append : {old middle new : Whole} {commands others : List Command} {answers more : List Answer}
      {x y z : List (Pair D)} → StepsOn tells keep disk old commands answers middle x y
      → StepsOn tells keep disk middle others more new y z
      → StepsOn tells keep disk old (commands ++ others) (answers ++ more) new x z
  steps_append NoStep behind = behind
  steps_append (StepThen first rest) behind = StepThen first (steps_append rest behind)

  -- commands, and then others
  pub performs_append : {old middle new : Whole} {commands others : List Command} {answers more : List Answer}
      {x y z : List (Pair D)} → PerformsAll tells keep disk old commands answers middle x y
      → PerformsAll tells keep disk middle others more new y z
      → PerformsAll tells keep disk old (commands ++ others) (answers ++ more) new x z
  performs_append NoCommand behind = behind
  performs_append (CommandThen first rest) behind = CommandThen first (performs_append rest behind)

  -- a step that is answered is counted, or refused
  pub step_counts : {old new : Whole} {x y : List (Pair D)} (command : Command) (before : SweepReport) (given : Answer)
      (result : Result SweepReport SweepFault) → Stepped tells keep disk old command given new x y
      → ReportsSo before given result → SweepStepsTo tells keep disk old command (swept_of before) result new x y
  step_counts {old} {new} {x} {y} command before (answer.Refused refusal) result stepped reports =
      subst (λ (r : Result SweepReport SweepFault). SweepStepsTo tells keep disk old command (swept_of before) r new x y)
      (sym reports) stepped
  step_counts command before other (Ok more) stepped reports = (other, stepped, refl, reports)
  step_counts command before other (Err fault) stepped reports = absurd reports

  -- nothing is swept yet
  pub swept_nothing : (world : Whole) (disks : List (Pair D)) (report : SweepReport) → swept_of report ≡ none_swept
      → SweepsAll tells keep disk world [] report world disks disks
  swept_nothing world disks report none = record {
    answers = [];
    done = record { steps = NoStep; unrefused = All-nil (λ (given : Answer). is_refusal given ≡ false) };
    counted = none;
  }

  module _ {old middle : Whole} {x y : List (Pair D)} (steps : List Command) (index : ℕ) (step : Command)
      (within : index < length steps) (is : step ≡ get_or steps index step) (report : SweepReport)
      (first : SweepsAll tells keep disk old (take index steps) report middle x y) where
    -- one step more is counted
    pub swept_more : {new : Whole} {z : List (Pair D)} (more : SweepReport)
        → SweepStepsTo tells keep disk middle step (swept_of report) (Ok more) new y z
        → SweepsAll tells keep disk old (take (index + 1) steps) more new x z
    swept_more {new} {z} more (given, stepped, unrefused, counted) = record {
      answers = first.answers ++ given ∷ [];
      done = record {
        steps = subst (λ (some : List Command). StepsOn tells keep disk old some (first.answers ++ given ∷ []) new x z)
            (sym (take_command steps index step within is)) (steps_append first.done.steps (StepThen stepped NoStep));
        unrefused = All-push (λ (a : Answer). is_refusal a ≡ false) first.answers given first.done.unrefused unrefused;
      };
      counted = counted ∙ ap (λ (swept : Swept). with_answer swept given) first.counted
          ∙ sym (fold-append with_answer none_swept first.answers (given ∷ []));
    }

    swept_until : SweepsUntil tells keep disk old steps step middle x y
    swept_until = record {
      first = take index steps;
      rest = drop (index + 1) steps;
      is = split_command steps index step within is;
      answers = first.answers;
      done = first.done;
    }

    -- or it is the last
    pub swept_last : (new : Whole) (z : List (Pair D)) (fault : SweepFault)
        → SweepStepsTo tells keep disk middle step (swept_of report) (Err fault) new y z
        → SweepsTo tells keep disk old steps (Err fault) new x z
    swept_last new z (Stopped refusal) stepped = record {
      next = step;
      middle = middle;
      mid_disks = y;
      until = swept_until;
      refused = stepped;
    }
    swept_last new z Memory cut = inr (record {
      next = step;
      middle = middle;
      mid_disks = y;
      until = swept_until;
      cut = cut;
    })

-- what is answered to a sweep
module _ {K D : Type 0} (tells : Type 0) (keep : Keep K) (disk : Disk D) (old new : Whole) (x y : List (Pair D))
    (order : Order) where
  pub sweep_performs : (swept : Result SweepReport SweepFault) (result : Result Answer OutOfMemory)
      → AnswersSweep swept result → SweepsTo tells keep disk old (sweep_commands order (length old.members)) swept new x y
      → IfOk result (λ given. Performs tells keep disk old (Sweep order) given new x y)
  sweep_performs swept (Ok given) is sweeps = AsSweep swept sweeps is
  sweep_performs swept (Err memory) is sweeps = tt

  pub sweep_part : (swept : Result SweepReport SweepFault) (result : Result Answer OutOfMemory)
      → AnswersSweep swept result → SweepsTo tells keep disk old (sweep_commands order (length old.members)) swept new x y
      → OnErr result (PerformsPart tells keep disk old (Sweep order) new x y)
  sweep_part swept (Ok given) is sweeps = tt
  sweep_part (Ok report) (Err memory) is sweeps = absurd is
  sweep_part (Err (Stopped refusal)) (Err memory) is sweeps = absurd is
  sweep_part (Err Memory) (Err memory) is sweeps = PartOfSweep sweeps
