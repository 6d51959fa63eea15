-- What is known, by its code, of a run in a mode that makes a volume.
use Rattle.std.specs.Prelude.{◌≡◌, ℕ, ◌≤◌}
use Rattle.ficus_ids.specs.Members.{IsCount}
use Rattle.ficus_model.specs.Lawful.{Volume}
use Rattle.ficus_durable_state.specs.Limits.{byte_limit, update_limit}
use Rattle.ficus_words.specs.declared.mode.Size.{Size}
use Rattle.ficus_opening.specs.Rests.{AllRest}
use Rattle.ficus_opening.specs.Opening.{IsFirstOccupied, SeenSame}
use Rattle.ficus_top.specs.Codes.{IsRefusalCode}
use Rattle.ficus_top.specs.Seen.{Seen, disks_after, disks_before}
use Rattle.ficus_top.specs.declared.status.Status.{Status}

-- a volume may have this size
pub record FitsSize (size : Size) : Type 0 where
  pub members : IsCount size.members
  pub ids_at_least : 1 ≤ size.ids
  pub ids_at_most : size.ids ≤ update_limit
  pub bytes : size.bytes ≤ byte_limit

-- a volume of this size
abbrev pub volume_of : Size → Volume
volume_of size = record { members = size.members; ids = size.ids; bytes = size.bytes }

-- Code 9 names the first of so many members of which a disk holds something, and comes wherever there is one, unless a
-- fault comes before. Then nothing is written, and what the disks hold stays, whatever the code.
pub record MakesVolume {S K D : Type 0} (members : ℕ) (seen : Seen S K D) (status : Status) : Type 0 where
  pub occupied : status.code ≡ 9 → IsFirstOccupied seen.disk.seen (disks_before seen) status.replica
  pub is_member : status.code ≡ 9 → status.replica ≤ members
  pub occupied_comes : (r : ℕ) → r ≤ members → IsFirstOccupied seen.disk.seen (disks_before seen) r
      → IsRefusalCode 9 r status.code status.replica
  pub held : (r : ℕ) → r ≤ members → IsFirstOccupied seen.disk.seen (disks_before seen) r
      → SeenSame seen.disk.seen (disks_before seen) (disks_after seen)
  pub rests : (r : ℕ) → r ≤ members → IsFirstOccupied seen.disk.seen (disks_before seen) r
      → AllRest seen.disk (disks_before seen) (disks_after seen)
