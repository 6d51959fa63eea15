-- What it means that the code sweeps as the model does.
use Rattle.std.specs.Prelude.{◌≡◌, ℕ, ◌*◌, ◌≤◌, List, Result, Ok, Err}
use Rattle.ficus_disk.specs.declared.disk.Disk.{Ghosts as Disk}
use Rattle.ficus_disk.specs.declared.pair.Pair.{Pair}
use Rattle.ficus_ids.specs.declared.refusal.Refusal.{Refusal}
use Rattle.ficus_keeper.specs.declared.keep.Keep.{Ghosts as Keep}
use Rattle.ficus_model.specs.Lawful.{Volume}
use Rattle.ficus_runs.specs.Actions.{ModelAction}
use Rattle.ficus_runs.specs.ModelWorld.{ModelWorld}
use Rattle.ficus_runs.specs.Outcome.{Outcome}
use Rattle.ficus_runs.specs.Sequence.{Cut}
use Rattle.ficus_script.specs.declared.answer.Answer.{Answer}
use Rattle.ficus_script.specs.declared.answer.Answer.TheVariants as answer
use Rattle.ficus_script.specs.declared.command.Command.{Command}
use Rattle.ficus_sweep_laws.specs.Laws.{IsSwept}
use Rattle.ficus_runs.specs.Sweep.{DoesSweepPart, DoesSweepStep, SweepStep, Swept, Sweeps, SweepsPart, command_of, none_swept, with_answer}
use Rattle.ficus_loop.specs.declared.sweep_fault.SweepFault.{SweepFault}
use Rattle.ficus_loop.specs.declared.sweep_fault.SweepFault.TheVariants.{Stopped, Memory}
use Rattle.ficus_loop.specs.declared.sweep_report.SweepReport.{SweepReport}
use Rattle.ficus_world.specs.Disks.{DisksFollow}
use Rattle.ficus_world.specs.Follows.{FollowsIn, FollowsPart}
use Rattle.ficus_world.specs.Fuses.{FusesFollow, FusesPermit}
use Rattle.ficus_world.specs.World.{Whole, WorldStandsFor, most_unforeseen}

-- a world with fewer stored events has room for those of a sweep
abbrev pub sweeping_limit : ℕ
sweeping_limit = 4200000000

-- the most steps of a sweep: 42 pulls and 8 collections
abbrev pub most_steps : ℕ
most_steps = 50

-- the most events that a sweep stores beside one for each message that it posts
abbrev pub most_swept : ℕ
most_swept = most_unforeseen * most_steps

-- the command is a step of a sweep
abbrev pub IsSweepCommand : Command → Type 0
IsSweepCommand command = (step : SweepStep) × (command ≡ command_of step)

-- a replica holds fewer removed entries, and fewer files and directories, than this: members issue fewer identifiers
abbrev pub most_held : ℕ
most_held = 1000000

-- a collection gives up so many at most
abbrev pub GivesUpFew : Answer → Type 0
GivesUpFew (answer.Collected entries files) = (entries ≤ most_held) × (files ≤ most_held)
GivesUpFew other = Unit {0}

-- so far the counts are those of so many steps at most
pub record CountsFew (steps : ℕ) (report : SweepReport) : Type 0 where
  pub pulls : report.pulls ≤ steps
  pub entries : report.entries ≤ most_held * steps
  pub files : report.files ≤ most_held * steps

abbrev pub swept_of : SweepReport → Swept
swept_of report = record { pulls = report.pulls; entries = report.entries; files = report.files }

-- the report with the answer to one step more, or the refusal
abbrev pub ReportsSo : SweepReport → Answer → Result SweepReport SweepFault → Type 0
ReportsSo report (answer.Refused refusal) result = result ≡ Err (Stopped refusal)
ReportsSo report other (Ok more) = swept_of more ≡ with_answer (swept_of report) other
ReportsSo report other (Err fault) = ⊥

-- the world follows an action of the model, by some outcomes, which the disks and their fuses follow
pub record FollowsAction {K D A : Type 0} (keep : Keep K) (disk : Disk D) (volume : Volume) (W : ModelWorld)
    (old : Whole) (action : ModelAction A) (result : Result A Refusal) (new : Whole)
    (old_disks new_disks : List (Pair D)) : Type 0 where
  pub outcomes : List Outcome
  pub follows : FollowsIn volume W old action result (record { outcomes = outcomes; after = new })
  pub disks : DisksFollow disk.faults disk.armings outcomes old_disks new_disks
  pub fuses : FusesFollow keep disk outcomes old.members new.members old_disks new_disks

-- the same where memory is refused on the way; the fuses allow the outcomes
pub record StopsAction {K D : Type 0} (keep : Keep K) (disk : Disk D) (volume : Volume) (W : ModelWorld)
    (old : Whole) (part : Cut ModelWorld) (new : Whole) (old_disks new_disks : List (Pair D)) : Type 0 where
  pub outcomes : List Outcome
  pub stops : FollowsPart volume W old part (record { outcomes = outcomes; after = new })
  pub disks : DisksFollow disk.faults disk.armings outcomes old_disks new_disks
  pub fuses : FusesPermit keep disk outcomes old.members old_disks

-- one step is done, and reported; or refused; or memory was
abbrev pub FollowsStep : {K D : Type 0} → Keep K → Disk D → Volume → ModelWorld → Whole → SweepStep → Swept
    → Result SweepReport SweepFault → Whole → List (Pair D) → List (Pair D) → Type 0
FollowsStep keep disk volume W old step before (Ok report) new old_disks new_disks =
    (answer : Answer) × (swept_of report ≡ with_answer before answer)
    × FollowsAction keep disk volume W old (DoesSweepStep volume step) (Ok answer) new old_disks new_disks
FollowsStep keep disk volume W old step before (Err (Stopped refusal)) new old_disks new_disks =
    FollowsAction keep disk volume W old (DoesSweepStep volume step) (Err refusal) new old_disks new_disks
FollowsStep keep disk volume W old step before (Err Memory) new old_disks new_disks =
    StopsAction keep disk volume W old (DoesSweepPart volume step) new old_disks new_disks

-- all steps are done, and reported; or one is refused; or memory was
abbrev pub FollowsSweep : {K D : Type 0} → Keep K → Disk D → Volume → ModelWorld → Whole → List SweepStep
    → Result SweepReport SweepFault → Whole → List (Pair D) → List (Pair D) → Type 0
FollowsSweep keep disk volume W old steps (Ok report) new old_disks new_disks =
    FollowsAction keep disk volume W old (Sweeps volume steps none_swept) (Ok (swept_of report)) new old_disks new_disks
FollowsSweep keep disk volume W old steps (Err (Stopped refusal)) new old_disks new_disks =
    FollowsAction keep disk volume W old (Sweeps volume steps none_swept) (Err refusal) new old_disks new_disks
FollowsSweep keep disk volume W old steps (Err Memory) new old_disks new_disks =
    StopsAction keep disk volume W old (SweepsPart volume steps) new old_disks new_disks

-- the world stands for one in which all is swept
pub record LeavesSwept (volume : Volume) (world : Whole) : Type 0 where
  pub after : ModelWorld
  pub stands : WorldStandsFor volume after world
  pub swept : IsSwept volume.members after.events
