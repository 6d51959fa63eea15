-- How the fuses of the members' disks stand, and what they make of saves and openings.
use Rattle.std.specs.Prelude.{◌≡◌, ℕ, Bool, true, false, if◌then◌else◌, List, Option, Some, None}
use Rattle.ficus_disk.specs.declared.disk.Disk.{Ghosts as Disk}
use Rattle.ficus_disk.specs.declared.pair.Pair.{Pair}
use Rattle.ficus_keeper.specs.Fuses.{Fuses, StaysRegular, both_unarmed, found_again, fuses_of}
use Rattle.ficus_keeper.specs.Kept.{Kept}
use Rattle.ficus_keeper.specs.declared.keep.Keep.{Ghosts as Keep}
use Rattle.ficus_durable_state.specs.declared.saved.Saved.{Saved}
use Rattle.ficus_stable_storage.specs.Leads.Holds.{Holds}
use Rattle.ficus_runs.specs.Fuses.{FuseState, FusesAllowAll, Keeping, after_outcomes}
use Rattle.ficus_runs.specs.Numbered.{IsNumbered}
use Rattle.ficus_runs.specs.Outcome.{Outcome}
use Rattle.ficus_opening.specs.declared.member.Member.{Member}
use Rattle.ficus_opening.specs.declared.member.MemberState.{MemberState}
use Rattle.ficus_opening.specs.declared.member.MemberState.TheVariants.{Up, Down}
use Rattle.ficus_opening.specs.declared.member.Pending.{Pending}

-- how many calls a keeper's saves make, and on which disk
abbrev pub keeping_of : {K : Type 0} → Keep K → Keeping
keeping_of keep = record { calls = keep.calls; is_on_a = keep.is_on_a }

-- The fuses of a member that is up stand as in this state, and nothing is pending. Of one that is down, what its disks
-- are found to hold once they are opened again is what is pending, where that will be found, and else what it has
-- saved.
abbrev pub StandsSo : FuseState → Fuses → Option Kept → Saved → MemberState → Type 0
StandsSo state fuses found saved Up = (fuses ≡ state.fuses) × (state.will_find ≡ false)
StandsSo state fuses found saved (Down None) = Holds found saved × (state.will_find ≡ false)
StandsSo state fuses found saved (Down (Some pending)) =
    Holds found (if state.will_find then pending.replica.saved else saved)

-- so the disks of a member stand, which it alone wrote, and so often it has saved
pub record FuseStands {K D : Type 0} (keep : Keep K) (disk : Disk D) (state : FuseState) (member : Member)
    (pair : Pair D) : Type 0 where
  pub generation : state.generation ≡ member.replica.saved.generation
  pub regular : StaysRegular keep.Regular disk.may_leave pair
  pub so : StandsSo state (fuses_of disk.fuse pair) (found_again keep.kept disk.image disk.fuse pair)
      member.replica.saved member.state

-- so those of each member do
pub record FusesStand {K D : Type 0} (keep : Keep K) (disk : Disk D) (F : ℕ → FuseState) (members : List Member)
    (disks : List (Pair D)) : Type 0 where
  pub each : (r : ℕ) (member : Member) (pair : Pair D) → IsNumbered members r member → IsNumbered disks r pair
      → FuseStands keep disk (F r) member pair

-- However the fuses of the members' disks stand, they allow these outcomes. A claim where the disks tell their fuses.
pub record FusesPermit {K D : Type 0} (keep : Keep K) (disk : Disk D) (outcomes : List Outcome) (members : List Member)
    (disks : List (Pair D)) : Type 0 where
  pub all : disk.tells_fuse → disk.tells → (F : ℕ → FuseState) → FusesStand keep disk F members disks
      → FusesAllowAll (keeping_of keep) F outcomes

-- and afterwards they stand as these outcomes leave them
pub record FusesFollow {K D : Type 0} (keep : Keep K) (disk : Disk D) (outcomes : List Outcome)
    (old new : List Member) (old_disks new_disks : List (Pair D)) : Type 0 where
  pub permit : FusesPermit keep disk outcomes old old_disks
  pub stand : disk.tells_fuse → disk.tells → (F : ℕ → FuseState) → FusesStand keep disk F old old_disks
      → FusesStand keep disk (after_outcomes (keeping_of keep) F outcomes) new new_disks

-- What was read of a member's disks that were opened again is what is pending, where that will be found, and else what
-- it has saved.
abbrev pub IsReadBy : Bool → Member → Saved → Type 0
IsReadBy false was read = read ≡ was.replica.saved
IsReadBy true was read =
    (pending : Pending) × (was.state ≡ Down (Some pending)) × (read ≡ pending.replica.saved)

-- no number is armed, nothing is pending, and so often the member has saved
abbrev pub at_rest : ℕ → FuseState
at_rest generation = record { fuses = both_unarmed; generation = generation; will_find = false }

-- so it is of each member
pub record AreAtRest (F : ℕ → FuseState) (members : List Member) : Type 0 where
  pub each : (r : ℕ) (member : Member) → IsNumbered members r member
      → F r ≡ at_rest member.replica.saved.generation
