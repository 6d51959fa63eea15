-- What each action on a world does to it and to its disks, whatever it is.
use Rattle.std.specs.Prelude.{◌≡◌, ℕ, ◌+◌, ◌≤◌, ◌∷◌, IsErrOf, List, [], Result, Ok, Err, Some, length}
use Rattle.ficus_disk.specs.declared.disk.Disk.{Ghosts as Disk}
use Rattle.ficus_disk.specs.declared.pair.Pair.{Pair}
use Rattle.ficus_ids.specs.declared.refusal.Refusal.{Refusal}
use Rattle.ficus_ids.specs.declared.refusal.Refusal.TheVariants.{Memory, Store}
use Rattle.ficus_keeper.specs.declared.keep.Keep.{Ghosts as Keep}
use Rattle.ficus_script.specs.declared.command.Command.{Command}
use Rattle.ficus_runs.specs.Numbered.{IsNumbered}
use Rattle.ficus_runs.specs.Outcome.{IsSaved, SaveFails}
use Rattle.ficus_stable_storage.specs.declared.stable.Stable.{Stable}
use Rattle.ficus_world.specs.Disks.{AreSpared, DisksComeTo, DisksStay, IsBacked, StaysOn}
use Rattle.ficus_world.specs.Kills.{IsSettled, Passes, Touches}
use Rattle.ficus_opening.specs.Rests.{OthersStay, RestsAt}
use Rattle.ficus_world.specs.Moves.{advanced, downed}
use Rattle.ficus_opening.specs.declared.member.Member.{Member}
use Rattle.ficus_opening.specs.declared.member.Pending.{Pending}
use Rattle.ficus_world.specs.World.{Backed, Whole}

-- One action on a world over its disks: it stores so many events at most, there are as many members, with a keeper
-- each, the disks are still those of the world, and of them it touches those of one member at most. Where memory is
-- refused, the world is as it was; where no member has changed, the disks are as they were.
pub record Acts {A K D : Type 0} (keep : Keep K) (disk : Disk D) (most : ℕ) (result : Result A Refusal)
    (old new : Backed K) (old_disks new_disks : List (Pair D)) : Type 0 where
  pub grows : length new.whole.events ≤ length old.whole.events + most
  pub members : length new.whole.members ≡ length old.whole.members
  pub stables : length new.stables ≡ length old.stables
  pub memory : IsErrOf result Memory → StaysOn disk.faults disk.armings old.whole new.whole old_disks new_disks
  pub touches : Touches keep disk old.whole new.whole old_disks new_disks
  pub spared : new.whole.members ≡ old.whole.members → AreSpared disk old_disks new_disks
  pub backed : IsBacked keep disk new new_disks

-- Several actions, one after the other: at each moment of them the disks are as before, or one member saves, link by
-- link, each of such a kind, and the pairs of no member stay.
pub record ActsOn {K D : Type 0} (tells : Type 0) (keep : Keep K) (disk : Disk D) (IsLink : Command → Type 0)
    (old new : Backed K) (old_disks new_disks : List (Pair D)) : Type 0 where
  pub members : length new.whole.members ≡ length old.whole.members
  pub passes : IsSettled keep disk old.whole old_disks → IsSettled keep disk new.whole new_disks
      → Passes tells keep disk IsLink old.whole new.whole old_disks new_disks
  pub others : OthersStay (length old.whole.members) old_disks new_disks
  pub backed : IsBacked keep disk new new_disks

-- Room was taken on the disks of member `by`, which are as before, and those of the members still.
pub record StaysAt {K D : Type 0} (keep : Keep K) (disk : Disk D) (by : ℕ) (old_stables new_stables : List (Stable K))
    (old new : List (Pair D)) : Type 0 where
  pub disks : DisksStay keep disk old_stables new_stables old new
  pub follows : (members : List Member) → DisksComeTo keep disk [] members members old new
  pub rests : RestsAt disk by old new
  pub spared : AreSpared disk old new
  pub count : length new_stables ≡ length old_stables

-- What became of a save: it is done, and its event is stored; or the member is down, and it is pending; or memory was
-- refused.
abbrev pub SavesNext : {K D : Type 0} → Keep K → Disk D → ℕ → Pending → Result (Unit {0}) Refusal → Whole → Whole
    → List (Pair D) → List (Pair D) → Type 0
SavesNext keep disk by next (Ok done) old new old_disks new_disks =
    ((was : Member) → IsNumbered old.members by was → new ≡ advanced old by was next.replica next.event)
    × DisksComeTo keep disk (IsSaved by ∷ []) old.members new.members old_disks new_disks
SavesNext keep disk by next (Err Store) old new old_disks new_disks =
    ((was : Member) → IsNumbered old.members by was → new ≡ downed old by was (Some next))
    × DisksComeTo keep disk (SaveFails by ∷ []) old.members new.members old_disks new_disks
SavesNext keep disk by next (Err Memory) old new old_disks new_disks = Unit {0}
SavesNext keep disk by next (Err refusal) old new old_disks new_disks = ⊥
