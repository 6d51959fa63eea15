-- What each call that carries out commands promises, by name.
use Rattle.std.specs.Prelude.{◌≡◌, ℕ, ◌+◌, ◌≤◌, List, length, Result, IfOk, OnErr}
use Rattle.ficus_disk.specs.declared.disk.Disk.{Ghosts as Disk}
use Rattle.ficus_disk.specs.declared.pair.Pair.{Pair}
use Rattle.ficus_keeper.specs.declared.keep.Keep.{Ghosts as Keep}
use Rattle.ficus_model.specs.Lawful.{Volume}
use Rattle.ficus_opening.specs.Rests.{OthersStay}
use Rattle.ficus_runs.specs.ModelWorld.{ModelWorld}
use Rattle.ficus_script.specs.declared.answer.Answer.{Answer}
use Rattle.ficus_script.specs.declared.command.Command.{Command}
use Rattle.ficus_loop.specs.Performing.{Performs, PerformsPart}
use Rattle.ficus_world.specs.Disks.{IsBacked}
use Rattle.ficus_world.specs.Follows.{FollowsOn, StopsOn, TellsFor}
use Rattle.ficus_world.specs.Kills.{IsDeedOf, Passes}
use Rattle.ficus_world.specs.World.{Backed, Whole, WorldStandsFor, foreseen}

-- The disks are those of the world still, which has as many members: there are as many pairs, and those of no member
-- stay. So many events more are foreseen, at most.
pub record StaysBacked {K D : Type 0} (keep : Keep K) (disk : Disk D) (most : ℕ) (old new : Backed K)
    (old_disks new_disks : List (Pair D)) : Type 0 where
  pub others : OthersStay (length old.whole.members) old_disks new_disks
  pub backed : IsBacked keep disk new new_disks
  pub members : length new.whole.members ≡ length old.whole.members
  pub pairs : length new_disks ≡ length old_disks
  pub grows : foreseen new.whole ≤ foreseen old.whole + most

-- One command is answered as the model answers it, or cut short for want of memory. At each moment of it the disks are
-- as before, or one member saves, by a link that is of this command.
pub record AnswersCommand {E K D : Type 0} (tells : Type 0) (keep : Keep K) (disk : Disk D) (command : Command)
    (result : Result Answer E) (old new : Whole) (old_disks new_disks : List (Pair D)) : Type 0 where
  pub stands : tells → TellsFor disk.tells command → (volume : Volume) (W : ModelWorld) → WorldStandsFor volume W old
      → IfOk result (λ answer. FollowsOn keep disk volume W old command answer new old_disks new_disks)
  pub stays : tells → (volume : Volume) (W : ModelWorld) → WorldStandsFor volume W old
      → OnErr result (StopsOn keep disk volume W old command new old_disks new_disks)
  -- Whatever the world stands for, this comes of what its members hold.
  pub performs : IfOk result (λ answer. Performs tells keep disk old command answer new old_disks new_disks)
  pub part : OnErr result (PerformsPart tells keep disk old command new old_disks new_disks)
  pub passes : Passes tells keep disk (IsDeedOf command) old new old_disks new_disks
