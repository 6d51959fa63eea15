-- What commands are answered with over disks, from a world of the model on, and what the disks hold then.
use Rattle.std.specs.Prelude.{◌≡◌, ◌<◌, ◌-◌, ◌^◌, ℕ, List, ◌++◌, length}
use Rattle.ficus_disk.specs.declared.disk.Disk.{Ghosts as Disk}
use Rattle.ficus_disk.specs.declared.pair.Pair.{Pair}
use Rattle.ficus_keeper.specs.declared.keep.Keep.{Ghosts as Keep}
use Rattle.ficus_model.specs.Lawful.{Volume}
use Rattle.ficus_script.specs.declared.command.Command.{Command}
use Rattle.ficus_runs.specs.Outcomes.{all_outcomes}
use Rattle.ficus_runs.specs.Fuses.{FuseState, FusesAllowAll}
use Rattle.ficus_runs.specs.ModelWorld.{ModelWorld, Standing, Up}
use Rattle.ficus_runs.specs.Numbered.{IsNumbered}
use Rattle.ficus_runs.specs.Outcome.{Outcome, link_failures}
use Rattle.ficus_runs.specs.Run.{EachDone}
use Rattle.ficus_top.specs.Summary.Keeper.{keeping, kept_in}
use Rattle.ficus_world.specs.Disks.{DisksFollow}
use Rattle.ficus_world.specs.Fuses.{FusesStand}
use Rattle.ficus_world.specs.World.{Whole}
use Rattle.ficus_opening.specs.Opening.{Steady}
use Rattle.ficus_world.specs.Stand.{ArePending, DisksOutlast, DisksStand}
use Rattle.ficus_loop.specs.Serving.{Serves, ServesFront}

-- each member takes commands
abbrev pub AllUp : ModelWorld → Type 0
AllUp W = (r : ℕ) (standing : Standing) → IsNumbered W.standings r standing → standing ≡ Up

-- no disk has failed: no count rose, or stands at its last value
pub record NoneFailed {D : Type 0} (faults : D → ℕ) (old new : List (Pair D)) : Type 0 where
  pub steady : Steady faults old new
  pub each : (r : ℕ) (pair : Pair D) → IsNumbered new r pair
      → (faults pair.a < 2 ^ 64 - 1) × (faults pair.b < 2 ^ 64 - 1)

-- the disks tell their fuses, and so these stand of the members of a world
abbrev pub StandNow : {K D : Type 0} → Keep K → Disk D → Whole → List (Pair D) → (ℕ → FuseState) → Type 0
StandNow keep disk world disks F = disk.tells_fuse × FusesStand keep disk F world.members disks

-- What became of all that was asked of the outside. The link never failed, and of the disks of each member so many
-- saves and openings failed as their count rose by, at most; where no disk failed, all was done. Where the fuses stood
-- so before, they allow it. The disks stand for what it led to, of each member, and so does whatever a crash leaves of
-- them; what is pending of a member that is down may still come.
pub record LeavesDisks {D : Type 0} (disk : Disk D) (Rest : (ℕ → FuseState) → Type 0) (volume : Volume)
    (after : ModelWorld) (outcomes : List (List Outcome)) (all : List Outcome) (old_disks new_disks : List (Pair D)) :
    Type 0 where
  pub linked : link_failures all ≡ 0
  pub disks : DisksFollow disk.faults disk.armings all old_disks new_disks
  pub done : NoneFailed disk.faults old_disks new_disks → EachDone outcomes
  pub fuses : (F : ℕ → FuseState) → Rest F → FusesAllowAll keeping F all
  pub standings : length after.standings ≡ volume.members
  pub pending : ArePending volume after
  pub stand : DisksStand kept_in disk.seen volume after new_disks
  pub outlasts : DisksOutlast kept_in disk.may_leave volume after new_disks

-- the commands were served, and what became of all that was asked of the outside
pub record Ends {D : Type 0} (tells : Type 0) (disk : Disk D) (Rest : (ℕ → FuseState) → Type 0) (volume : Volume)
    (W : ModelWorld) (commands : List Command) (old new : List ℕ) (old_disks new_disks : List (Pair D)) :
    Type 0 where
  pub after : ModelWorld
  pub serves : Serves tells volume W commands after old new
  pub leaves : LeavesDisks disk Rest volume after serves.outcomes (all_outcomes serves.outcomes) old_disks new_disks
  pub open leaves use *

-- the same of some first commands
pub record EndsFront {D : Type 0} (tells may : Type 0) (disk : Disk D) (Rest : (ℕ → FuseState) → Type 0)
    (volume : Volume) (W : ModelWorld) (commands : List Command) (old new : List ℕ)
    (old_disks new_disks : List (Pair D)) : Type 0 where
  pub after : ModelWorld
  pub serves : ServesFront tells may volume W commands after old new
  pub leaves : LeavesDisks disk Rest volume after serves.outcomes
      (all_outcomes serves.outcomes ++ serves.more_outcomes) old_disks new_disks
  pub open leaves use *
