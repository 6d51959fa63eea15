-- The mode `init`: a fresh volume is made.
use Rattle.std.specs.Prelude.{◌≡◌, ◌≢◌, ◌⊎◌, ◌≤◌, ℕ, []}
use Rattle.ficus_top.specs.Summary.Keeper.{kept_in}
use Rattle.ficus_words.specs.declared.mode.Size.{Size}
use Rattle.ficus_opening.specs.Rests.{AllRest, OthersStay}
use Rattle.ficus_opening.specs.Opening.{AreEmpty, AreSynced, IsMadeInPart, SomeAreMade, StandsOn, Steady}
use Rattle.ficus_top.specs.Ends.{NoneFailed}
use Rattle.ficus_top.specs.Making.{MakesVolume, volume_of}
use Rattle.ficus_top.specs.Seen.{Seen, disks_before, disks_after}
use Rattle.ficus_top.specs.declared.status.Status.{Status}

abbrev pub IsInitCode : ℕ → Type 0
IsInitCode code = (code ≡ 0) ⊎ (code ≡ 3) ⊎ (code ≡ 6) ⊎ (code ≡ 9)

-- Nothing is taken and nothing put, and no disk is armed. With code 0 the disks stand for the empty history of a volume
-- of this size, and nothing of that is unsynced, if nothing was before. Empty disks get there, unless one fails or
-- memory is wanted. Then, if nothing was unsynced before, nothing else is there than what is made: with code 3 some
-- first members; with code 6 nothing, or the members before the one that it names, and this in part. Code 6 comes
-- wherever a disk has failed, also where the disks don't tell what they hold, and names a member. The pairs of no
-- member stay.
pub record DoesInit {S K D : Type 0} (size : Size) (seen : Seen S K D) (status : Status) : Type 0 where
  pub codes : IsInitCode status.code
  pub unread : seen.input.new ≡ seen.input.old
  pub silent : seen.output.new ≡ seen.output.old
  pub unarmed : Steady seen.disk.armings (disks_before seen) (disks_after seen)
  pub unfailed : status.code ≢ 6 → Steady seen.disk.faults (disks_before seen) (disks_after seen)
  pub member : status.code ≡ 6 → status.replica ≤ size.members
  pub makes : seen.disk.tells → MakesVolume size.members seen status
  pub made : seen.disk.tells → status.code ≡ 0
      → StandsOn kept_in seen.disk.seen (volume_of size) [] (disks_after seen)
  pub synced : seen.disk.tells → status.code ≡ 0
      → AreSynced seen.disk.seen seen.disk.may_leave (disks_before seen) size.members
      → AreSynced seen.disk.seen seen.disk.may_leave (disks_after seen) size.members
  pub wanted : seen.disk.tells → status.code ≡ 3 → AreEmpty seen.disk.seen (disks_before seen) size.members
      → AreSynced seen.disk.seen seen.disk.may_leave (disks_before seen) size.members
      → SomeAreMade kept_in seen.disk (volume_of size) (disks_before seen) (disks_after seen)
  pub partly : seen.disk.tells → status.code ≡ 6 → AreEmpty seen.disk.seen (disks_before seen) size.members
      → AreSynced seen.disk.seen seen.disk.may_leave (disks_before seen) size.members
      → AllRest seen.disk (disks_before seen) (disks_after seen)
      ⊎ IsMadeInPart kept_in seen.disk (volume_of size) status.replica (disks_before seen) (disks_after seen)
  pub others : OthersStay size.members (disks_before seen) (disks_after seen)
  pub complete : seen.disk.tells → AreEmpty seen.disk.seen (disks_before seen) size.members
      → NoneFailed seen.disk.faults (disks_before seen) (disks_after seen) → (status.code ≡ 0) ⊎ (status.code ≡ 3)
