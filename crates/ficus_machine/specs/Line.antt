-- What a machine does for one line.
use Rattle.std.specs.Prelude.{◌≡◌, ℕ, List, ◌++◌, length, All, Result, IfOk, IsErrOf, OnOk}
use Rattle.ficus_disk.specs.declared.disk.Disk.{Ghosts as Disk}
use Rattle.ficus_disk.specs.declared.pair.Pair.{Pair}
use Rattle.ficus_ids.specs.declared.refusal.Refusal.{Refusal}
use Rattle.ficus_keeper.specs.declared.keep.Keep.{Ghosts as Keep}
use Rattle.ficus_mailbox.specs.declared.mailbox.Mailbox.{Ghosts as Mailbox}
use Rattle.ficus_script.specs.declared.answer.Answer.{Answer}
use Rattle.ficus_world.specs.Disks.{IsBacked}
use Rattle.ficus_world.specs.Machines.Part.{Deed}
use Rattle.ficus_world.specs.Machines.Together.{Alone, Told}
use Rattle.ficus_world.specs.Moves.{with_post}
use Rattle.ficus_world.specs.World.{Whole}
use Rattle.ficus_machine.specs.Came.{CameIn, IsLetterOfOne}
use Rattle.ficus_machine.specs.Machine.{IsAtRest, KeepsMachine, KeepsRest, MachineState}
use Rattle.ficus_machine.specs.Noting.{AsksSlots}
use Rattle.ficus_machine.specs.declared.fault.LineFault.{LineFault}
use Rattle.ficus_machine.specs.declared.fault.LineFault.TheVariants.{Note}

-- behind the one list stands more, or nothing
pub record Grows {A : Type 0} (old new : List A) : Type 0 where
  pub more : List A
  pub is : new ≡ old ++ more

-- and all that stands more there is so
pub record GrowsBy {A : Type 0} (P : A → Type 0) (old new : List A) : Type 0 where
  pub more : List A
  pub is : new ≡ old ++ more
  pub each : All P more

-- What the machine of member `me` did, alone: from the one world to the other, by these messages that came out of files
-- of its mailbox, and those that it posted. Only those are put.
pub record GoesOn {M : Type 0} (mailbox : Mailbox M) (disks_tell : Type 0) (me : ℕ) (tag : List ℕ)
    (told : List Told) (old new : Whole) (was now : M) : Type 0 where
  pub came : List (List ℕ)
  pub posted : List (List ℕ)
  pub alone : Alone (Unit {0}) disks_tell me old came posted told new
  pub count : length new.members ≡ length old.members
  pub given : mailbox.tells → Grows (mailbox.given was) (mailbox.given now)
  pub each_came : mailbox.tells → All (CameIn tag (length old.members) me (mailbox.given now)) came
  pub put : mailbox.tells
      → GrowsBy (IsLetterOfOne tag (length old.members) posted) (mailbox.posted was) (mailbox.posted now)

-- the same, whatever was told
pub record GoesSomehow {M : Type 0} (mailbox : Mailbox M) (disks_tell : Type 0) (me : ℕ) (tag : List ℕ)
    (old new : Whole) (was now : M) : Type 0 where
  pub told : List Told
  pub goes : GoesOn mailbox disks_tell me tag told old new was now

-- one thing that the machine was asked for, and what it answered
abbrev pub told_of : ℕ → Deed → Result Answer Refusal → Told
told_of me deed result = record { by = me; deed = deed; result = result }

-- What a call comes to: what the machine did, whether or not it came to an answer, and the answer, by what was told.
-- The disks stand under its world; and where it came to an answer, all is as between lines.
pub record Goes {K D N M A : Type 0} (keep : Keep K) (disk : Disk D) (slot : Disk N) (mailbox : Mailbox M)
    (Answers : List Told → A → Type 0) (result : Result A LineFault) (old new : MachineState K)
    (disks new_disks : List (Pair D)) (slots new_slots : Pair N) (was now : M) : Type 0 where
  pub told : List Told
  pub goes : GoesOn mailbox disk.tells old.me old.tag told old.world.whole new.world.whole was now
  pub answers : IfOk result (Answers told)
  pub rest : OnOk result (IsAtRest keep disk slot new new_disks new_slots)
  pub backed : IsBacked keep disk new.world new_disks
  pub same : KeepsMachine old new
  pub asks : AsksSlots slot result new.note slots new_slots

-- the same of a call after which the world may have messages still, which its link may have counted as failed
pub record GoesInWorld {K D M A : Type 0} (keep : Keep K) (disk : Disk D) (mailbox : Mailbox M)
    (Answers : List Told → A → Type 0) (result : Result A LineFault) (old new : MachineState K)
    (disks new_disks : List (Pair D)) (was now : M) : Type 0 where
  pub told : List Told
  pub middle : Whole
  pub goes : GoesOn mailbox disk.tells old.me old.tag told old.world.whole middle was now
  pub is : new.world.whole ≡ with_post middle new.world.whole.post
  pub answers : IfOk result (Answers told)
  pub backed : IsBacked keep disk new.world new_disks
  pub no_note : IsErrOf result Note → ⊥
  pub rest : KeepsRest old new
