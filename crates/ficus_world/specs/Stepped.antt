-- What a command comes to, with what it does to the disks.
use Rattle.std.specs.Prelude.{List, [], Result}
use Rattle.ficus_disk.specs.declared.disk.Disk.{Ghosts as Disk}
use Rattle.ficus_disk.specs.declared.pair.Pair.{Pair}
use Rattle.ficus_ids.specs.declared.refusal.Refusal.{Refusal}
use Rattle.ficus_keeper.specs.declared.keep.Keep.{Ghosts as Keep}
use Rattle.ficus_rules.specs.Rule.{UnlessMemoryWhere}
use Rattle.ficus_script.specs.declared.answer.Answer.{Answer}
use Rattle.ficus_script.specs.declared.command.Command.{Command}
use Rattle.ficus_runs.specs.Answers.{OrMemory}
use Rattle.ficus_runs.specs.Outcome.{Outcome}
use Rattle.ficus_runs.specs.Sequence.{Cut}
use Rattle.ficus_world.specs.Disks.{DisksFollow}
use Rattle.ficus_world.specs.Fuses.{FusesFollow, FusesPermit}
use Rattle.ficus_world.specs.Moves.{CarriesOut, CutShort, Moves, TablesMayWantMemory}
use Rattle.ficus_world.specs.World.{Whole}

-- what the command comes to, by some outcomes, which the disks and their fuses follow; it may be want of memory where
-- that may be wanted
pub record ComesTo {K D : Type 0} (tells : Type 0) (keep : Keep K) (disk : Disk D) (old : Whole) (command : Command)
    (result : Result Answer Refusal) (new : Whole) (old_disks new_disks : List (Pair D)) : Type 0 where
  pub outcomes : List Outcome
  pub does : UnlessMemoryWhere (TablesMayWantMemory old command)
      (λ answer. CarriesOut tells disk.tells command old answer (record { outcomes = outcomes; after = new })) result
  pub disks : DisksFollow disk.faults disk.armings outcomes old_disks new_disks
  pub fuses : OrMemory (λ answer. FusesFollow keep disk outcomes old.members new.members old_disks new_disks) result

-- the same of a command that only looks, and asks nothing of the outside
abbrev pub LookComesTo : Type 0 → Whole → Command → Result Answer Refusal → Type 0
LookComesTo tells old command result =
    UnlessMemoryWhere (TablesMayWantMemory old command)
    (λ answer. CarriesOut tells ⊥ command old answer (record { outcomes = []; after = old })) result

-- one command: its answer, the world after it, and the disks
pub record Stepped {K D : Type 0} (tells : Type 0) (keep : Keep K) (disk : Disk D) (old : Whole) (command : Command)
    (answer : Answer) (new : Whole) (old_disks new_disks : List (Pair D)) : Type 0 where
  pub outcomes : List Outcome
  pub moves : Moves tells disk.tells old command outcomes answer new
  pub disks : DisksFollow disk.faults disk.armings outcomes old_disks new_disks
  pub fuses : FusesFollow keep disk outcomes old.members new.members old_disks new_disks

-- what was cut short, for want of memory, the world after it, and the disks
pub record CutPart {K D : Type 0} (keep : Keep K) (disk : Disk D) (part : Cut Whole) (old new : Whole)
    (old_disks new_disks : List (Pair D)) : Type 0 where
  pub outcomes : List Outcome
  pub cut : part old (record { outcomes = outcomes; after = new })
  pub disks : DisksFollow disk.faults disk.armings outcomes old_disks new_disks
  pub fuses : FusesPermit keep disk outcomes old.members old_disks

-- a command that was cut short
abbrev pub CutOn : {K D : Type 0} → Type 0 → Keep K → Disk D → Command → Whole → Whole → List (Pair D)
    → List (Pair D) → Type 0
CutOn tells keep disk command old new old_disks new_disks =
    CutPart keep disk (CutShort tells command) old new old_disks new_disks
