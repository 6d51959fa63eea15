-- A disk in memory that stands in for a real one.
use Rattle.std.specs.Prelude.{◌≡◌, ℕ, ◌-◌, ◌^◌, min, List, [], Option, Some}
use Rattle.ficus_disk.specs.Crash.{Only}
use Rattle.ficus_disk.specs.MemDisk.{MayLeave, armings_in, fuse_in, image_in, may_leave_image, room_in, seen_in}
use Rattle.ficus_disk.specs.declared.fuse.Fuse.{Fuse}
use Rattle.ficus_disk.specs.declared.fuse.Fuse.TheVariants.{Unarmed}
use Rattle.ficus_disk.specs.declared.fuse.Pick.{Pick}
use Rattle.ficus_disk.specs.declared.fuse.Pick.TheVariants.{Written}
use Rattle.ficus_here_or_away.specs.declared.stand_in.StandIn.{StandIn}

-- what a read gives
abbrev pub seen_of : StandIn → List ℕ
seen_of stand_in = seen_in stand_in.disk

-- a crash may leave these bytes
abbrev pub MayBeLeft : StandIn → List ℕ → Type 0
MayBeLeft stand_in = MayLeave stand_in.disk

-- no moment is told
abbrev pub moment_of : StandIn → ℕ
moment_of stand_in = 0

abbrev pub MightBeLeft : StandIn → ℕ → List ℕ → Type 0
MightBeLeft stand_in moment bytes = ⊥

-- writes that end within so many bytes take no memory
abbrev pub room_of : StandIn → ℕ
room_of stand_in = min (room_in stand_in.disk) (2 ^ 64 - 1)

-- how often it has failed
abbrev pub faults_of : StandIn → ℕ
faults_of stand_in = stand_in.faults

-- how often its fuse was armed
abbrev pub armings_of : StandIn → Option ℕ
armings_of stand_in = armings_in stand_in.disk

-- how its fuse stands
abbrev pub fuse_of : StandIn → Fuse
fuse_of stand_in = fuse_in stand_in.disk

-- the image that a pick names
abbrev pub image_of : StandIn → Pick → List ℕ
image_of stand_in = image_in stand_in.disk

-- it is empty, nothing is unsynced, and it has neither failed nor been armed
pub record IsFresh (stand_in : StandIn) : Type 0 where
  pub empty : seen_of stand_in ≡ []
  pub durable : Only [] (MayBeLeft stand_in)
  pub unarmed : fuse_of stand_in ≡ Unarmed
  pub fused : armings_of stand_in ≡ Some 0
  pub unfailed : faults_of stand_in ≡ 0

-- a crash may leave what a pick leaves, and so what a read gives
pub pick_may_be_left : (stand_in : StandIn) (pick : Pick) → MayBeLeft stand_in (image_of stand_in pick)
pick_may_be_left stand_in pick = may_leave_image stand_in.disk pick

pub seen_may_be_left : (stand_in : StandIn) → MayBeLeft stand_in (seen_of stand_in)
seen_may_be_left stand_in = may_leave_image stand_in.disk Written
