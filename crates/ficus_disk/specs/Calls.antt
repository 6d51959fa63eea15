-- What is alike in the calls of a disk, so that each call says it by name.
use Rattle.std.specs.Prelude.{◌≡◌, ◌⊎◌, ℕ, ◌+◌, ◌≤◌, List, length, Option, Result, is_ok, IsOk, OnOk, OnErr}
use Rattle.ficus_faults.specs.Faults.{Rose}
use Rattle.ficus_disk.specs.Bytes.{patch, Torn}
use Rattle.ficus_disk.specs.Crash.{Elapses, Follows, Only, Within}
use Rattle.ficus_disk.specs.Fuse.{armed, burnt, is_intact, passes, pick_of, picked}
use Rattle.ficus_disk.specs.declared.fuse.Fuse.{Fuse}
use Rattle.ficus_disk.specs.declared.fuse.Fuse.TheVariants.{Unarmed}
use Rattle.ficus_disk.specs.declared.fuse.Pick.{Pick}

-- the count of faults rose where the call failed, and stands where it didn't; no fuse was armed
pub record Counts {D A E : Type 0} (faults : D → ℕ) (armings_in : D → Option ℕ) (old new : D) (result : Result A E)
    : Type 0 where
  pub failed : OnErr result (Rose (faults old) (faults new))
  pub steady : OnOk result (faults new ≡ faults old)
  pub risen : faults old ≤ faults new
  pub armings : armings_in new ≡ armings_in old

-- a read gives what it gave, a crash leaves no more than before, and no room is lost
pub record Keeps {D : Type 0} (tells : Type 0) (seen_in : D → List ℕ) (may_leave : D → List ℕ → Type 0) (moment : D → ℕ)
    (left_since : D → ℕ → List ℕ → Type 0) (room_in : D → ℕ) (old new : D) : Type 0 where
  pub seen : tells → seen_in new ≡ seen_in old
  pub crash : Within (may_leave old) (may_leave new)
  pub moments : Elapses (moment old) (moment new) (left_since old) (left_since new) (may_leave new)
  pub room : room_in old ≤ room_in new

-- both: so a call that reads alone, or that syncs
pub record Stays {D A E : Type 0} (tells : Type 0) (seen : D → List ℕ) (may_leave : D → List ℕ → Type 0)
    (moment : D → ℕ) (left_since : D → ℕ → List ℕ → Type 0) (room : D → ℕ) (faults : D → ℕ) (armings : D → Option ℕ)
    (old new : D) (result : Result A E) : Type 0 where
  pub keeps : Keeps tells seen may_leave moment left_since room old new
  pub counts : Counts faults armings old new result

-- a write of the bytes begins within the disk, and there is room for it
pub record FitsWrite {D : Type 0} (tells : Type 0) (seen : D → List ℕ) (room : D → ℕ) (at : ℕ) (bytes : List ℕ)
    (disk : D) : Type 0 where
  pub place : tells → at ≤ length (seen disk)
  pub within : at + length bytes ≤ room disk

-- the bytes stand from `at` on where the call passed, and may be begun where it failed; until the next sync a crash may
-- leave any bytes in their range; no room is lost
pub record Writes {D A E : Type 0} (tells : Type 0) (seen : D → List ℕ) (may_leave : D → List ℕ → Type 0)
    (moment : D → ℕ) (left_since : D → ℕ → List ℕ → Type 0) (room_in : D → ℕ) (at : ℕ) (bytes : List ℕ) (old new : D)
    (result : Result A E) : Type 0 where
  pub written : tells → OnOk result (seen new ≡ patch (seen old) at bytes)
  pub begun : tells → OnErr result (Torn at (length bytes) (seen old) (seen new))
  pub crash : Follows (Torn at (length bytes)) (may_leave old) (may_leave new)
  pub moments : Elapses (moment old) (moment new) (left_since old) (left_since new) (may_leave new)
  pub room : room_in old ≤ room_in new

-- a read gives one of the images that a crash might have left, and nothing is unsynced; a call that failed has done
-- nothing, or all of this; no room is lost
pub record Reopens {D A E : Type 0} (tells : Type 0) (seen : D → List ℕ) (may_leave : D → List ℕ → Type 0)
    (moment : D → ℕ) (left_since : D → ℕ → List ℕ → Type 0) (room_in : D → ℕ) (old new : D) (result : Result A E)
    : Type 0 where
  pub left : tells → may_leave old (seen new)
  pub durable : tells → OnOk result (Only (seen new) (may_leave new))
  pub begun : tells → OnErr result ((seen new ≡ seen old) ⊎ Only (seen new) (may_leave new))
  pub crash : Within (may_leave old) (may_leave new)
  pub moments : Elapses (moment old) (moment new) (left_since old) (left_since new) (may_leave new)
  pub room : room_in old ≤ room_in new

-- the fuse stays as it is, and what each pick leaves
pub record Spares {D : Type 0} (fuse_in : D → Fuse) (image : D → Pick → List ℕ) (old new : D) : Type 0 where
  pub fuse : fuse_in new ≡ fuse_in old
  pub images : (pick : Pick) → image new pick ≡ image old pick

-- the fuse is armed with this number and pick, and what each pick leaves stays
pub record Rearms {D : Type 0} (fuse_in : D → Fuse) (image : D → Pick → List ℕ) (calls : ℕ) (with_pick : Pick)
    (old new : D) : Type 0 where
  pub fuse : fuse_in new ≡ armed calls with_pick (fuse_in old)
  pub images : (pick : Pick) → image new pick ≡ image old pick

-- the call passes exactly where the disk hasn't failed, and leaves the fuse and what each pick leaves
pub record Looks {D A E : Type 0} (fuse_in : D → Fuse) (image : D → Pick → List ℕ) (old new : D) (result : Result A E)
    : Type 0 where
  pub answers : is_ok result ≡ is_intact (fuse_in old)
  pub fuse : fuse_in new ≡ fuse_in old
  pub images : (pick : Pick) → image new pick ≡ image old pick

-- a write passes exactly where the fuse lets it; a pick leaves the earlier image with what it leaves of the bytes
pub record BurnsAtWrite {D A E : Type 0} (fuse_in : D → Fuse) (image : D → Pick → List ℕ) (at : ℕ) (bytes : List ℕ)
    (old new : D) (result : Result A E) : Type 0 where
  pub answers : is_ok result ≡ passes (fuse_in old)
  pub fuse : fuse_in new ≡ burnt (fuse_in old)
  pub images : (pick : Pick) → image new pick ≡ picked pick (image old pick) at bytes

-- a sync passes exactly where the fuse lets it; one that fails leaves what each pick leaves
pub record BurnsAtSync {D A E : Type 0} (fuse_in : D → Fuse) (image : D → Pick → List ℕ) (old new : D)
    (result : Result A E) : Type 0 where
  pub answers : is_ok result ≡ passes (fuse_in old)
  pub fuse : fuse_in new ≡ burnt (fuse_in old)
  pub images : OnErr result ((pick : Pick) → image new pick ≡ image old pick)

-- the disk is opened again, with the image that the pick of its fuse names, and no number is armed
pub record Unarms {D A E : Type 0} (seen : D → List ℕ) (fuse : D → Fuse) (image : D → Pick → List ℕ) (old new : D)
    (result : Result A E) : Type 0 where
  pub opens : IsOk result
  pub unarmed : fuse new ≡ Unarmed
  pub picked : seen new ≡ image old (pick_of (fuse old))
