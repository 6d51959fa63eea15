-- The mode `replay`: a fresh volume is made, and the script is run on it.
use Rattle.std.specs.Prelude.{◌≡◌, ◌≢◌, ◌⊎◌, ◌≤◌, ℕ, []}
use Rattle.ficus_top.specs.Summary.Keeper.{kept_in}
use Rattle.ficus_words.specs.declared.mode.Size.{Size}
use Rattle.ficus_opening.specs.Fuses.{AreUnarmed}
use Rattle.ficus_opening.specs.Rests.{AllRest, OthersRest}
use Rattle.ficus_opening.specs.Opening.{AreEmpty, AreMadeFirst, AreSynced, IsMadeInPart, SomeAreMade, Steady}
use Rattle.ficus_top.specs.Ends.{NoneFailed}
use Rattle.ficus_top.specs.Making.{MakesVolume, volume_of}
use Rattle.ficus_top.specs.Script.{AnswersScript, HasScript, ReadsScript}
use Rattle.ficus_top.specs.Seen.{Seen, disks_before, disks_after}
use Rattle.ficus_top.specs.declared.status.Status.{Status}

abbrev pub IsReplayCode : ℕ → Type 0
IsReplayCode code = (code ≡ 0) ⊎ (code ≡ 2) ⊎ (code ≡ 3) ⊎ (code ≡ 4) ⊎ (code ≡ 5) ⊎ (code ≡ 6) ⊎ (code ≡ 7)
    ⊎ (code ≡ 8) ⊎ (code ≡ 9)

-- What is made where no command was carried out. With code 3 it is some first members; with code 6 all, or nothing, or
-- the members before the one that it names, and this in part.
pub record IsMadeSo {S K D : Type 0} (size : Size) (seen : Seen S K D) (status : Status) : Type 0 where
  pub wanted : status.code ≡ 3 → SomeAreMade kept_in seen.disk (volume_of size) (disks_before seen) (disks_after seen)
  pub failed : status.code ≡ 6
      → AreMadeFirst kept_in seen.disk (volume_of size) size.members (disks_before seen) (disks_after seen)
      ⊎ AllRest seen.disk (disks_before seen) (disks_after seen)
      ⊎ IsMadeInPart kept_in seen.disk (volume_of size) status.replica (disks_before seen) (disks_after seen)

-- No command was carried out: where nothing was there and nothing unsynced, nothing else is there than what is made
-- of a volume of this size. No disk has failed, unless the code says so.
pub record StaysUnmade {S K D : Type 0} (size : Size) (seen : Seen S K D) (status : Status) : Type 0 where
  pub partly : seen.disk.tells → AreEmpty seen.disk.seen (disks_before seen) size.members
      → AreSynced seen.disk.seen seen.disk.may_leave (disks_before seen) size.members → IsMadeSo size seen status
  pub unfailed : status.code ≢ 6 → Steady seen.disk.faults (disks_before seen) (disks_after seen)

-- The script is answered on a volume of this size to which nothing has happened. What was made can be opened, so that
-- code 7 comes only over disks that don't tell what they hold. A script is answered over empty disks, unless the
-- outside fails or memory is wanted; over empty disks that tell their fuses, of which none is armed, whatever becomes
-- of the disks. With codes 7 and 9 no disk has failed, and code 6 names a member. On the pairs of no member nothing is
-- written.
pub record DoesReplay {S K D : Type 0} (size : Size) (seen : Seen S K D) (status : Status) : Type 0 where
  pub codes : IsReplayCode status.code
  pub reads : seen.source.tells → ReadsScript seen status
  pub makes : seen.disk.tells → MakesVolume size.members seen status
  pub opens : seen.disk.tells → status.code ≡ 7 → ⊥
  pub unfailed : (status.code ≡ 7) ⊎ (status.code ≡ 9)
      → Steady seen.disk.faults (disks_before seen) (disks_after seen)
  pub unmade : status.code ≡ 6 → StaysUnmade size seen status
  pub member : seen.disk.tells → status.code ≡ 6 → status.replica ≤ size.members
  pub others : seen.disk.tells → OthersRest seen.disk size.members (disks_before seen) (disks_after seen)
  pub answers : seen.source.tells → seen.disk.tells
      → AnswersScript seen status (StaysUnmade size seen status) (volume_of size) []
  pub complete : seen.source.tells → seen.disk.tells → AreEmpty seen.disk.seen (disks_before seen) size.members
      → HasScript seen → NoneFailed seen.disk.faults (disks_before seen) (disks_after seen)
      → (status.code ≡ 0) ⊎ (status.code ≡ 3)
  pub complete_by_fuses : seen.source.tells → seen.disk.tells → seen.disk.tells_fuse
      → AreEmpty seen.disk.seen (disks_before seen) size.members → AreUnarmed seen.disk.fuse (disks_before seen)
      → HasScript seen → (status.code ≡ 0) ⊎ (status.code ≡ 3)
