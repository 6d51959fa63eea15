-- What commands come to by what the members of a world hold, whether or not it stands for a history, and over any link.
use Rattle.std.specs.Prelude.{◌≡◌, ◌⊎◌, ℕ, false, All, List, [], ◌∷◌, ◌++◌, length, map, Result, Ok, Err}
use Rattle.std.specs.List.{fold}
use Rattle.ficus_disk.specs.declared.disk.Disk.{Ghosts as Disk}
use Rattle.ficus_disk.specs.declared.pair.Pair.{Pair}
use Rattle.ficus_ids.specs.Members.{IsMember}
use Rattle.ficus_ids.specs.declared.refusal.Refusal.{Refusal}
use Rattle.ficus_ids.specs.declared.refusal.Refusal.TheVariants as refusal
use Rattle.ficus_keeper.specs.declared.keep.Keep.{Ghosts as Keep}
use Rattle.ficus_runs.specs.Sweep.{Swept, command_of, none_swept, sweep_steps, with_answer}
use Rattle.ficus_script.specs.declared.answer.Answer.{Answer}
use Rattle.ficus_script.specs.declared.answer.Answer.TheVariants.{Refused, Why as Explained}
use Rattle.ficus_script.specs.declared.command.Command.{Command}
use Rattle.ficus_script.specs.declared.command.Command.TheVariants.{Sweep, Why}
use Rattle.ficus_script.specs.declared.order.Order.{Order}
use Rattle.ficus_loop.specs.SweepFollows.{swept_of}
use Rattle.ficus_loop.specs.Sweeping.{AnswersSweep}
use Rattle.ficus_loop.specs.Tally.{is_refusal}
use Rattle.ficus_loop.specs.declared.sweep_fault.SweepFault.{SweepFault}
use Rattle.ficus_loop.specs.declared.sweep_fault.SweepFault.TheVariants.{Stopped, Memory}
use Rattle.ficus_loop.specs.declared.sweep_report.SweepReport.{SweepReport}
use Rattle.ficus_why_runs.specs.Row.{Explains}
use Rattle.ficus_world.specs.Stepped.{CutOn, Stepped}
use Rattle.ficus_world.specs.World.{IsUpIn, Whole}

-- Steps of a world, one after the other: to each its answer, and the world and the disks after it.
pub data StepsOn {K D : Type 0} (tells : Type 0) (keep : Keep K) (disk : Disk D) :
    Whole → List Command → List Answer → Whole → List (Pair D) → List (Pair D) → Type 0 where
  NoStep : {world : Whole} {disks : List (Pair D)} → StepsOn tells keep disk world [] [] world disks disks
  StepThen : {old middle new : Whole} {command : Command} {commands : List Command} {answer : Answer}
      {answers : List Answer} {x y z : List (Pair D)} → Stepped tells keep disk old command answer middle x y
      → StepsOn tells keep disk middle commands answers new y z
      → StepsOn tells keep disk old (command ∷ commands) (answer ∷ answers) new x z

-- steps of which none was refused
pub record StepsUnrefused {K D : Type 0} (tells : Type 0) (keep : Keep K) (disk : Disk D) (old : Whole)
    (commands : List Command) (answers : List Answer) (new : Whole) (old_disks new_disks : List (Pair D)) : Type 0 where
  pub steps : StepsOn tells keep disk old commands answers new old_disks new_disks
  pub unrefused : All (λ answer. is_refusal answer ≡ false) answers

-- how many pulls were answered, and what the collections gave up in all
abbrev pub swept_by : List Answer → Swept
swept_by answers = fold with_answer none_swept answers

-- what one step of a sweep comes to: it is counted; or it was refused; or memory was
abbrev pub SweepStepsTo : {K D : Type 0} → Type 0 → Keep K → Disk D → Whole → Command → Swept
    → Result SweepReport SweepFault → Whole → List (Pair D) → List (Pair D) → Type 0
SweepStepsTo tells keep disk old command before (Ok report) new old_disks new_disks =
    (answer : Answer) × Stepped tells keep disk old command answer new old_disks new_disks
    × (is_refusal answer ≡ false) × (swept_of report ≡ with_answer before answer)
SweepStepsTo tells keep disk old command before (Err (Stopped refusal)) new old_disks new_disks =
    Stepped tells keep disk old command (Refused refusal) new old_disks new_disks
SweepStepsTo tells keep disk old command before (Err Memory) new old_disks new_disks =
    CutOn tells keep disk command old new old_disks new_disks

-- these are done, and counted
pub record SweepsAll {K D : Type 0} (tells : Type 0) (keep : Keep K) (disk : Disk D) (old : Whole)
    (commands : List Command) (report : SweepReport) (new : Whole) (old_disks new_disks : List (Pair D)) : Type 0 where
  pub answers : List Answer
  pub done : StepsUnrefused tells keep disk old commands answers new old_disks new_disks
  pub counted : swept_of report ≡ swept_by answers

-- some first ones of these are done, which led to this world, and this one is the next
pub record SweepsUntil {K D : Type 0} (tells : Type 0) (keep : Keep K) (disk : Disk D) (old : Whole)
    (commands : List Command) (next : Command) (middle : Whole) (old_disks mid_disks : List (Pair D)) : Type 0 where
  pub first : List Command
  pub rest : List Command
  pub is : commands ≡ first ++ next ∷ rest
  pub answers : List Answer
  pub done : StepsUnrefused tells keep disk old first answers middle old_disks mid_disks

-- the next one was refused
pub record SweepStops {K D : Type 0} (tells : Type 0) (keep : Keep K) (disk : Disk D) (old : Whole)
    (commands : List Command) (why : Refusal) (new : Whole) (old_disks new_disks : List (Pair D)) : Type 0 where
  pub next : Command
  pub middle : Whole
  pub mid_disks : List (Pair D)
  pub until : SweepsUntil tells keep disk old commands next middle old_disks mid_disks
  pub refused : Stepped tells keep disk middle next (Refused why) new mid_disks new_disks

-- the next one was cut short, for want of memory
pub record SweepIsCut {K D : Type 0} (tells : Type 0) (keep : Keep K) (disk : Disk D) (old : Whole)
    (commands : List Command) (new : Whole) (old_disks new_disks : List (Pair D)) : Type 0 where
  pub next : Command
  pub middle : Whole
  pub mid_disks : List (Pair D)
  pub until : SweepsUntil tells keep disk old commands next middle old_disks mid_disks
  pub cut : CutOn tells keep disk next middle new mid_disks new_disks

-- All steps are done, and counted; or one was refused; or memory was, in one of them or before the first.
abbrev pub SweepsTo : {K D : Type 0} → Type 0 → Keep K → Disk D → Whole → List Command → Result SweepReport SweepFault
    → Whole → List (Pair D) → List (Pair D) → Type 0
SweepsTo tells keep disk old commands (Ok report) new old_disks new_disks =
    SweepsAll tells keep disk old commands report new old_disks new_disks
SweepsTo tells keep disk old commands (Err (Stopped refusal)) new old_disks new_disks =
    SweepStops tells keep disk old commands refusal new old_disks new_disks
SweepsTo tells keep disk old commands (Err Memory) new old_disks new_disks =
    ((new ≡ old) × (new_disks ≡ old_disks)) ⊎ SweepIsCut tells keep disk old commands new old_disks new_disks

-- the steps of a sweep of so many members, as commands
abbrev pub sweep_commands : Order → ℕ → List Command
sweep_commands order members = map command_of (sweep_steps order members)

-- Why is answered by the stored events alone, where the member is up.
pub data AnswersWhy (by : ℕ) (world : Whole) : Answer → Type 0 where
  OfNobody : (IsMember (length world.members) by → ⊥) → AnswersWhy by world (Refused refusal.Member)
  OfOneDown : IsMember (length world.members) by → (IsUpIn world by → ⊥) → AnswersWhy by world (Refused refusal.Down)
  OfOneUp : {lines : List (List ℕ)} → IsUpIn world by → Explains world.events by lines
      → AnswersWhy by world (Explained lines)

-- One command: a step of the world; or a sweep, which is its pulls and its collections; or why, which changes nothing.
pub data Performs {K D : Type 0} (tells : Type 0) (keep : Keep K) (disk : Disk D) :
    Whole → Command → Answer → Whole → List (Pair D) → List (Pair D) → Type 0 where
  AsStep : {old new : Whole} {command : Command} {answer : Answer} {x y : List (Pair D)}
      → Stepped tells keep disk old command answer new x y → Performs tells keep disk old command answer new x y
  AsSweep : {old new : Whole} {order : Order} {answer : Answer} {x y : List (Pair D)}
      → (swept : Result SweepReport SweepFault)
      → SweepsTo tells keep disk old (sweep_commands order (length old.members)) swept new x y
      → AnswersSweep swept (Ok answer) → Performs tells keep disk old (Sweep order) answer new x y
  AsWhy : {world : Whole} {by : ℕ} {answer : Answer} {disks : List (Pair D)} → AnswersWhy by world answer
      → Performs tells keep disk world (Why by) answer world disks disks

-- what one has done where memory was refused on the way
pub data PerformsPart {K D : Type 0} (tells : Type 0) (keep : Keep K) (disk : Disk D) :
    Whole → Command → Whole → List (Pair D) → List (Pair D) → Type 0 where
  PartOfStep : {old new : Whole} {command : Command} {x y : List (Pair D)}
      → CutOn tells keep disk command old new x y → PerformsPart tells keep disk old command new x y
  PartOfSweep : {old new : Whole} {order : Order} {x y : List (Pair D)}
      → SweepsTo tells keep disk old (sweep_commands order (length old.members)) (Err Memory) new x y
      → PerformsPart tells keep disk old (Sweep order) new x y
  PartOfWhy : {world : Whole} {by : ℕ} {disks : List (Pair D)} → IsUpIn world by
      → PerformsPart tells keep disk world (Why by) world disks disks

-- commands, one after the other
pub data PerformsAll {K D : Type 0} (tells : Type 0) (keep : Keep K) (disk : Disk D) :
    Whole → List Command → List Answer → Whole → List (Pair D) → List (Pair D) → Type 0 where
  NoCommand : {world : Whole} {disks : List (Pair D)} → PerformsAll tells keep disk world [] [] world disks disks
  CommandThen : {old middle new : Whole} {command : Command} {commands : List Command} {answer : Answer}
      {answers : List Answer} {x y z : List (Pair D)} → Performs tells keep disk old command answer middle x y
      → PerformsAll tells keep disk middle commands answers new y z
      → PerformsAll tells keep disk old (command ∷ commands) (answer ∷ answers) new x z
