-- The mode `run`: the volume that the disks hold is opened, and the script is run on it.
use Rattle.std.specs.Prelude.{◌≡◌, ◌≢◌, ◌⊎◌, ◌≤◌, ℕ, List}
use Rattle.ficus_model.specs.Lawful.{Volume}
use Rattle.ficus_model.specs.declared.event.Event.{Event}
use Rattle.ficus_durable_state.specs.declared.saved.Saved.{Saved}
use Rattle.ficus_top.specs.Summary.Keeper.{kept_in}
use Rattle.ficus_opening.specs.Rests.{AllRest, OthersRest}
use Rattle.ficus_loop.specs.Crashes.{CrashesKeep}
use Rattle.ficus_opening.specs.Opening.{IsFirstBad, Opens, SeenSame, StandsOn, Steady}
use Rattle.ficus_top.specs.Codes.{IsIdleCode, IsRefusalCode}
use Rattle.ficus_top.specs.Ends.{NoneFailed}
use Rattle.ficus_top.specs.Killed.{KillsScript}
use Rattle.ficus_top.specs.Script.{AnswersScript, HasScript, ReadsScript}
use Rattle.ficus_top.specs.Seen.{Seen, disks_before, disks_after}
use Rattle.ficus_top.specs.declared.status.Status.{Status}

abbrev pub IsRunCode : ℕ → Type 0
IsRunCode code = (code ≡ 0) ⊎ (code ≡ 2) ⊎ (code ≡ 3) ⊎ (code ≡ 4) ⊎ (code ≡ 5) ⊎ (code ≡ 6) ⊎ (code ≡ 7) ⊎ (code ≡ 8)

-- what a read of each disk gives stays, over disks that tell that
abbrev pub HoldsSame : {S K D : Type 0} → Seen S K D → Type 0
HoldsSame seen = seen.disk.tells → SeenSame seen.disk.seen (disks_before seen) (disks_after seen)

-- No command was carried out: nothing is written, and what a read of each disk gives stays, over disks that tell that.
-- No disk has failed, unless the code says so.
pub record StaysUnopened {S K D : Type 0} (seen : Seen S K D) (status : Status) : Type 0 where
  pub same : HoldsSame seen
  pub rests : AllRest seen.disk (disks_before seen) (disks_after seen)
  pub unfailed : status.code ≢ 6 → Steady seen.disk.faults (disks_before seen) (disks_after seen)

-- The script is answered on the volume, whatever lawful history it is that the disks stood for. Code 7 names the first
-- replica whose disks are those of no world, and comes wherever there is one, unless a fault comes before; no disk has
-- failed then, and it doesn't come over disks that stand for a lawful history. Code 6 names a member, and none behind
-- the first replica whose disks are those of no world. Where no command was carried out nothing is written. A script is
-- answered over disks that stand for a lawful history, unless the outside fails or memory is wanted. On the pairs of no
-- member nothing is written in any case. Where whatever a crash left at first keeps that history too, what a kill
-- at any moment leaves is known.
pub record DoesRun {S K D : Type 0} (seen : Seen S K D) (status : Status) : Type 0 where
  pub codes : IsRunCode status.code
  pub reads : seen.source.tells → ReadsScript seen status
  pub image : seen.disk.tells → status.code ≡ 7 → IsFirstBad kept_in seen.disk.seen (disks_before seen) status.replica
  pub image_comes : seen.disk.tells → (r : ℕ) → IsFirstBad kept_in seen.disk.seen (disks_before seen) r
      → IsRefusalCode 7 r status.code status.replica
  pub unfailed : status.code ≡ 7 → Steady seen.disk.faults (disks_before seen) (disks_after seen)
  pub unwritten : (status.code ≡ 6) ⊎ (status.code ≡ 7) → HoldsSame seen
  pub opens : seen.disk.tells → (volume : Volume) (H : List Event)
      → StandsOn kept_in seen.disk.seen volume H (disks_before seen) → status.code ≡ 7 → ⊥
  pub earlier : seen.disk.tells → (r : ℕ) → IsFirstBad kept_in seen.disk.seen (disks_before seen) r
      → status.code ≡ 6 → status.replica ≤ r
  pub member : seen.disk.tells → (first : Saved) → Opens kept_in seen.disk.seen (disks_before seen) first first 1
      → status.code ≡ 6 → status.replica ≤ first.members
  pub others : seen.disk.tells → (first : Saved) → Opens kept_in seen.disk.seen (disks_before seen) first first 1
      → OthersRest seen.disk first.members (disks_before seen) (disks_after seen)
  pub answers : seen.source.tells → seen.disk.tells → (volume : Volume) (H : List Event)
      → StandsOn kept_in seen.disk.seen volume H (disks_before seen)
      → AnswersScript seen status (StaysUnopened seen status) volume H
  pub complete : seen.source.tells → seen.disk.tells → (volume : Volume) (H : List Event)
      → StandsOn kept_in seen.disk.seen volume H (disks_before seen) → HasScript seen
      → NoneFailed seen.disk.faults (disks_before seen) (disks_after seen) → (status.code ≡ 0) ⊎ (status.code ≡ 3)
  pub rests : IsIdleCode status.code → AllRest seen.disk (disks_before seen) (disks_after seen)
  pub killed : seen.source.tells → seen.disk.tells → (volume : Volume) (H : List Event)
      → StandsOn kept_in seen.disk.seen volume H (disks_before seen)
      → CrashesKeep kept_in seen.disk.may_leave volume H (disks_before seen)
      → KillsScript seen status (StaysUnopened seen status) volume H
