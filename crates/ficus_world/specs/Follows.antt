-- What it means that the code follows the model.
use Rattle.std.specs.Prelude.{◌≡◌, ◌+◌, List, Result, length}
use Rattle.ficus_disk.specs.declared.disk.Disk.{Ghosts as Disk}
use Rattle.ficus_disk.specs.declared.pair.Pair.{Pair}
use Rattle.ficus_ids.specs.declared.refusal.Refusal.{Refusal}
use Rattle.ficus_keeper.specs.declared.keep.Keep.{Ghosts as Keep}
use Rattle.ficus_model.specs.Lawful.{Volume}
use Rattle.ficus_script.specs.declared.command.Command.{Command}
use Rattle.ficus_script.specs.declared.answer.Answer.{Answer}
use Rattle.ficus_runs.specs.Actions.{ModelAction}
use Rattle.ficus_runs.specs.ModelWorld.{ModelWorld}
use Rattle.ficus_runs.specs.Outcome.{Outcome, link_failures}
use Rattle.ficus_runs.specs.Run.{Step, DoesPart}
use Rattle.ficus_runs.specs.Sequence.{Cut, Effect}
use Rattle.ficus_runs.specs.Traits.{OpensDisks}
use Rattle.ficus_world.specs.Causes.{AreCaused}
use Rattle.ficus_world.specs.Disks.{DisksFollow}
use Rattle.ficus_world.specs.Fuses.{FusesFollow, FusesPermit}
use Rattle.ficus_world.specs.World.{Whole, WorldStandsFor}

-- as many events are stored from one world to the next as happen meanwhile in the model
abbrev pub StoresAsMany : ModelWorld → Whole → ModelWorld → Whole → Type 0
StoresAsMany W old after new = length after.events + length old.events ≡ length W.events + length new.events

-- The action of the model gives the same, by the same outcomes, and the world stands for what it leaves; as many events
-- are stored as happen. Each failure of the link is one that it counted.
pub record FollowsIn {A : Type 0} (volume : Volume) (W : ModelWorld) (old : Whole) (action : ModelAction A)
    (result : Result A Refusal) (left : Effect Whole) : Type 0 where
  pub after : ModelWorld
  pub does : action W result (record { outcomes = left.outcomes; after = after })
  pub caused : AreCaused old.post.faults left.after.post.faults (link_failures left.outcomes)
  pub stored : StoresAsMany W old after left.after
  pub stands : WorldStandsFor volume after left.after

-- the same where memory is refused on the way
pub record FollowsPart (volume : Volume) (W : ModelWorld) (old : Whole) (part : Cut ModelWorld) (left : Effect Whole) :
    Type 0 where
  pub after : ModelWorld
  pub does : part W (record { outcomes = left.outcomes; after = after })
  pub caused : AreCaused old.post.faults left.after.post.faults (link_failures left.outcomes)
  pub stored : StoresAsMany W old after left.after
  pub stands : WorldStandsFor volume after left.after

-- The model allows the answer, by these outcomes, and the world stands for what it leads to; as many events are stored
-- as happen. Each failure of the link is one that it counted.
pub record Follows (volume : Volume) (W : ModelWorld) (old : Whole) (command : Command) (outcomes : List Outcome)
    (answer : Answer) (new : Whole) : Type 0 where
  pub after : ModelWorld
  pub step : Step volume W command outcomes answer after
  pub caused : AreCaused old.post.faults new.post.faults (link_failures outcomes)
  pub stored : StoresAsMany W old after new
  pub stands : WorldStandsFor volume after new

-- the command was cut short, for want of memory, and the world stands for what it has done
abbrev pub Stops : Volume → ModelWorld → Whole → Command → List Outcome → Whole → Type 0
Stops volume W old command outcomes new =
    FollowsPart volume W old (DoesPart volume command) (record { outcomes = outcomes; after = new })

-- The disks tell what they hold, where the command opens some again, which alone uses that.
abbrev pub TellsFor : Type 0 → Command → Type 0
TellsFor tells command = OpensDisks command → tells

-- the world follows the model, by some outcomes, which the disks and their fuses follow
pub record FollowsOn {K D : Type 0} (keep : Keep K) (disk : Disk D) (volume : Volume) (W : ModelWorld) (old : Whole)
    (command : Command) (answer : Answer) (new : Whole) (old_disks new_disks : List (Pair D)) : Type 0 where
  pub outcomes : List Outcome
  pub follows : Follows volume W old command outcomes answer new
  pub disks : DisksFollow disk.faults disk.armings outcomes old_disks new_disks
  pub fuses : FusesFollow keep disk outcomes old.members new.members old_disks new_disks

-- the same where memory is refused on the way; the fuses allow the outcomes
pub record StopsOn {K D : Type 0} (keep : Keep K) (disk : Disk D) (volume : Volume) (W : ModelWorld) (old : Whole)
    (command : Command) (new : Whole) (old_disks new_disks : List (Pair D)) : Type 0 where
  pub outcomes : List Outcome
  pub stops : Stops volume W old command outcomes new
  pub disks : DisksFollow disk.faults disk.armings outcomes old_disks new_disks
  pub fuses : FusesPermit keep disk outcomes old.members old_disks
