-- What is known of the disks of a volume by how a run ended that was to open or to make it.
use Rattle.std.specs.Prelude.{◌≡◌, ◌⊎◌, ◌≤◌, ℕ, List, length, Result, IfErr, IsErrAnd, IsErrOf}
use Rattle.ficus_disk.specs.declared.disk.Disk.{Ghosts as Disk}
use Rattle.ficus_disk.specs.declared.pair.Pair.{Pair}
use Rattle.ficus_durable_state.specs.declared.saved.Saved.{Saved}
use Rattle.ficus_model.specs.Lawful.{Volume}
use Rattle.ficus_model.specs.declared.event.Event.{Event}
use Rattle.ficus_opening.specs.Opening.{IsAtFault, IsFirstBad, IsFirstOccupied, IsUnfailed, Opens, SeenSame, StandsOn, Steady}
use Rattle.ficus_opening.specs.Rests.{AllRest, OthersRest}
use Rattle.ficus_opening.specs.declared.fault.WorldFault.{WorldFault}
use Rattle.ficus_opening.specs.declared.fault.WorldFault.TheVariants.{Image, Occupied, Store}
use Rattle.ficus_top.specs.Summary.Keeper.{kept_in}
use Rattle.ficus_top.specs.Ending.{IsIdle, IsInterruption}
use Rattle.ficus_top.specs.declared.fault.Fault.{Fault}
use Rattle.ficus_top.specs.declared.fault.Fault.TheVariants.{Storing}

-- a volume was to be opened
pub record TellsOfOpening {D Done : Type 0} (disk : Disk D) (result : Result Done Fault) (old new : List (Pair D)) :
    Type 0 where
  -- Where no command was carried out nothing is written.
  pub rests : IfErr result (λ fault. IsIdle fault → AllRest disk old new)
  pub pairs : length new ≡ length old
  -- A disk of the named replica has failed.
  pub failed : (r : ℕ) → IsErrOf result (Storing (Store r)) → IsAtFault disk.faults old new r
  -- The first replica is named whose disks hold nothing with which a volume may be opened, and wherever there is one,
  -- unless something interrupts. There is none where the disks stand for a history.
  pub image : disk.tells → (r : ℕ) → IsErrOf result (Storing (Image r)) → IsFirstBad kept_in disk.seen old r
  pub image_comes : disk.tells → (r : ℕ) → IsFirstBad kept_in disk.seen old r
      → IsErrAnd result (λ fault. (fault ≡ Storing (Image r)) ⊎ IsInterruption fault)
  pub never_image : disk.tells → (volume : Volume) (H : List Event) → StandsOn kept_in disk.seen volume H old → (r : ℕ)
      → IsErrOf result (Storing (Image r)) → ⊥
  -- A disk that has failed is of no later replica than that one, and of a member.
  pub earlier : disk.tells → (q r : ℕ) → IsErrOf result (Storing (Store q)) → IsFirstBad kept_in disk.seen old r → q ≤ r
  pub member : disk.tells → (r : ℕ) → IsErrOf result (Storing (Store r)) → (first : Saved)
      → Opens kept_in disk.seen old first first 1 → r ≤ first.members
  -- Nothing is ever written on disks that are of no member.
  pub others : disk.tells → (first : Saved) → Opens kept_in disk.seen old first first 1
      → OthersRest disk first.members old new
  -- No disk has failed where no such fault is told.
  pub spared : (fault : WorldFault) → IsUnfailed fault → IsErrOf result (Storing fault) → Steady disk.faults old new

-- A volume of so many members was to be made. The first of them is named of which a disk holds something, and wherever
-- there is one, unless something interrupts. Where there is one nothing is written, and what the disks hold stays.
pub record TellsOfMaking {D Done : Type 0} (disk : Disk D) (members : ℕ) (result : Result Done Fault)
    (old new : List (Pair D)) : Type 0 where
  pub occupied : disk.tells → (r : ℕ) → IsErrOf result (Storing (Occupied r))
      → IsFirstOccupied disk.seen old r × (r ≤ members)
  pub occupied_comes : disk.tells → (r : ℕ) → r ≤ members → IsFirstOccupied disk.seen old r
      → IsErrAnd result (λ fault. (fault ≡ Storing (Occupied r)) ⊎ IsInterruption fault)
  pub held : disk.tells → (r : ℕ) → r ≤ members → IsFirstOccupied disk.seen old r → SeenSame disk.seen old new
  pub rests : disk.tells → (r : ℕ) → r ≤ members → IsFirstOccupied disk.seen old r → AllRest disk old new
