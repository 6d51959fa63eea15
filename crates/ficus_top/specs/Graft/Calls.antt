-- What a call on several volumes promises, by name.
use Rattle.std.specs.Prelude.{◌≡◌, ℕ, ◌+◌, false, List, length, Option, Result, Ok, IfNone, IfOk, IfSome, OnErr}
use Rattle.ficus_disk.specs.declared.disk.Disk.{Ghosts as Disk}
use Rattle.ficus_ids.specs.declared.memory.Memory.{Memory}
use Rattle.ficus_ids.specs.declared.refusal.Refusal.{Refusal}
use Rattle.ficus_keeper.specs.declared.keep.Keep.{Ghosts as Keep}
use Rattle.ficus_runs.specs.Run.{OnlyLooks}
use Rattle.ficus_script.specs.declared.answer.Answer.{Answer}
use Rattle.ficus_script.specs.declared.answer.Answer.TheVariants.{Refused}
use Rattle.ficus_script.specs.declared.command.Command.{Command}
use Rattle.ficus_loop.specs.Tally.{is_refusal}
use Rattle.ficus_world.specs.Follows.{TellsFor}
use Rattle.ficus_world.specs.World.{Backed, most_unforeseen}
use Rattle.ficus_top.specs.Graft.Answered.{sent_so}
use Rattle.ficus_top.specs.Graft.Runs.{AreHeld, Disks, ForeseeFew, IsCutShort, Sends}

-- A command is sent to the volume of this number, and answered, or cut short for want of memory. The others stay; where
-- it only looks, so does this one.
pub record SendsCommand {K D : Type 0} (tells : Type 0) (keep : Keep K) (disk : Disk D) (v : ℕ) (command : Command)
    (result : Result Answer Memory) (old new : List (Backed K)) (old_disks new_disks : Disks D) : Type 0 where
  pub sends : IfOk result (λ answer. Sends tells (tells × TellsFor disk.tells command) keep disk
      (sent_so v command answer) old new old_disks new_disks)
  pub memory : OnErr result (IsCutShort tells keep disk v command old new old_disks new_disks)
  pub same : OnlyLooks command → (new ≡ old) × (new_disks ≡ old_disks)
  pub held : AreHeld keep disk new new_disks
  pub grows : (limit : ℕ) → ForeseeFew limit old → ForeseeFew (limit + most_unforeseen) new
  pub count : length new ≡ length old

-- The same of one that was answered; and this is why it was refused, if it was.
pub record FindsRefusal {K D : Type 0} (tells : Type 0) (keep : Keep K) (disk : Disk D) (v : ℕ) (command : Command)
    (refusal : Option Refusal) (old new : List (Backed K)) (old_disks new_disks : Disks D) : Type 0 where
  pub answer : Answer
  pub sends : SendsCommand tells keep disk v command (Ok answer) old new old_disks new_disks
  pub refused : IfSome refusal (λ why. answer ≡ Refused why)
  pub unrefused : IfNone refusal (is_refusal answer ≡ false)
