-- What is alike in the calls of a keeper, so that each call says it by name.
use Rattle.std.specs.Prelude.{◌≡◌, ◌⊎◌, ℕ, ◌≤◌, Bool, List, Option, Some, None, Result, is_ok, IfOk, IsErrOf, OnOk, OnErr}
use Rattle.ficus_disk.specs.Crash.{Only}
use Rattle.ficus_disk.specs.Pair.{PairRose}
use Rattle.ficus_disk.specs.declared.disk.Disk.{Ghosts as Disk}
use Rattle.ficus_disk.specs.declared.fuse.Fuse.{Fuse}
use Rattle.ficus_disk.specs.declared.fuse.Pick.{Pick}
use Rattle.ficus_disk.specs.declared.pair.Pair.{Pair}
use Rattle.ficus_keeper.specs.Fuses.{FusedSave, IsRegularIn, SameFuses, StaysRegular, both_unarmed, fuses_of}
use Rattle.ficus_keeper.specs.Kept.{Kept, KeepsOneBetween, KeepsOneOf, Settled, after_commit, found_in, image_alone, kept_of}
use Rattle.ficus_keeper.specs.Moments.{PairLeavesOld, PairSpans}
use Rattle.ficus_keeper.specs.Pairs.{PairLeft, PairSame, PairWithin}
use Rattle.ficus_keeper.specs.declared.fault.MakeFault.{MakeFault}
use Rattle.ficus_keeper.specs.declared.fault.MakeFault.TheVariants.{Failed as MakeFailed}
use Rattle.ficus_keeper.specs.declared.fault.StoreFault.{StoreFault}
use Rattle.ficus_keeper.specs.declared.fault.StoreFault.TheVariants.{Failed as StoreFailed, Memory as StoreMemory, NoImage}
use Rattle.ficus_keeper.specs.declared.opened.Opened.{Opened}

-- the count of faults rose where the call failed, and stands where it didn't; no fuse was armed
pub record Counts {D A E : Type 0} (faults : D → ℕ) (armings_in : D → Option ℕ) (old new : Pair D) (result : Result A E)
    : Type 0 where
  pub failed : OnErr result (PairRose faults 1 old new)
  pub steady : OnOk result (PairSame faults old new)
  pub risen : PairRose faults 0 old new
  pub armings : PairSame armings_in old new

-- the same of a call that makes, which memory may stop too
pub record CountsMaking {D A : Type 0} (faults : D → ℕ) (armings_in : D → Option ℕ) (old new : Pair D)
    (result : Result A MakeFault) : Type 0 where
  pub failed : IsErrOf result MakeFailed → PairRose faults 1 old new
  pub steady : OnOk result (PairSame faults old new)
  pub risen : PairRose faults 0 old new
  pub armings : PairSame armings_in old new

-- and of one that opens, which may find nothing
pub record CountsOpening {D A : Type 0} (faults : D → ℕ) (armings_in : D → Option ℕ) (old new : Pair D)
    (result : Result A StoreFault) : Type 0 where
  pub failed : IsErrOf result StoreFailed → PairRose faults 1 old new
  pub steady : OnOk result (PairSame faults old new)
  pub spared : IsErrOf result StoreMemory → PairSame faults old new
  pub nothing : IsErrOf result NoImage → PairSame faults old new
  pub risen : PairRose faults 0 old new
  pub armings : PairSame armings_in old new

-- no fault was counted, no fuse was armed, and each stays as it is
pub record Spares {D : Type 0} (faults : D → ℕ) (armings_in : D → Option ℕ) (tells_fuse : Type 0)
    (image : D → Pick → List ℕ) (fuse : D → Fuse) (old new : Pair D) : Type 0 where
  pub steady : PairSame faults old new
  pub armings : PairSame armings_in old new
  pub fuses : tells_fuse → SameFuses image fuse old new

-- no fuse is armed, and none was: so nothing failed
pub record StaysUnarmed {D A E : Type 0} (fuse : D → Fuse) (failed : E) (new : Pair D) (result : Result A E)
    : Type 0 where
  pub never : IsErrOf result failed → ⊥
  pub unarmed : fuses_of fuse new ≡ both_unarmed

-- a read gives what it gave, and a crash leaves no more than before
pub record Keeps {D : Type 0} (tells tells_moments : Type 0) (seen : D → List ℕ) (may_leave : D → List ℕ → Type 0)
    (moment : D → ℕ) (left_since : D → ℕ → List ℕ → Type 0) (old new : Pair D) : Type 0 where
  pub same : tells → PairSame seen old new
  pub crash : PairWithin may_leave old new
  pub moments : PairLeavesOld moment left_since may_leave old new
  pub spans : tells_moments → PairSpans moment left_since old new

-- both disks are as before: nothing is written, no fault is counted, no fuse is armed, and each stays as it is
pub record AreAsBefore {D : Type 0} (disk : Disk D) (old new : Pair D) : Type 0 where
  pub keeps : Keeps disk.tells disk.tells_moments disk.seen disk.may_leave disk.moment disk.left_since old new
  pub spares : Spares disk.faults disk.armings disk.tells_fuse disk.image disk.fuse old new

-- a read gives what a crash might have left, and a crash leaves no more than before
pub record Crashes {D : Type 0} (tells tells_moments : Type 0) (seen : D → List ℕ) (may_leave : D → List ℕ → Type 0)
    (moment : D → ℕ) (left_since : D → ℕ → List ℕ → Type 0) (old new : Pair D) : Type 0 where
  pub left : tells → PairLeft seen may_leave old new
  pub crash : PairWithin may_leave old new
  pub moments : PairLeavesOld moment left_since may_leave old new
  pub spans : tells_moments → PairSpans moment left_since old new

-- an image is kept and durable; where nothing was unsynced, a crash after the call and at each moment of it leaves
-- nothing, or this
pub record Makes {D A E : Type 0} (kept_by : List ℕ → List ℕ → Option Kept) (Regular : List ℕ → List ℕ → Type 0)
    (seen : D → List ℕ) (may_leave : D → List ℕ → Type 0) (moment : D → ℕ) (left_since : D → ℕ → List ℕ → Type 0)
    (image : List ℕ) (old new : Pair D) (result : Result A E) : Type 0 where
  pub kept : OnOk result (found_in kept_by seen new ≡ Some (image_alone 0 image))
  pub durable : OnOk result (Only (seen new.a) (may_leave new.a))
  pub crash : Only (seen old.a) (may_leave old.a) → Only (seen old.b) (may_leave old.b)
      → KeepsOneOf kept_by may_leave new None (Some (image_alone 0 image))
  pub between : Only (seen old.a) (may_leave old.a) → Only (seen old.b) (may_leave old.b)
      → KeepsOneBetween kept_by moment left_since old new None (Some (image_alone 0 image))
  pub regular : OnOk result (IsRegularIn Regular seen new)

-- what was kept is found, nothing exactly where nothing was, and the keeper stands for what the disks hold now
pub record Finds {K D : Type 0} (kept : List ℕ → List ℕ → Option Kept) (fits : K → List ℕ → List ℕ → Type 0)
    (seen : D → List ℕ) (may_leave : D → List ℕ → Type 0) (was now : Pair D) (result : Result (K × Opened) StoreFault)
    : Type 0 where
  pub found : IfOk result (λ found. found_in kept seen was ≡ Some (kept_of found.1))
  pub settled : IfOk result (λ found. Settled fits seen may_leave found.0 now)
  pub none : IsErrOf result NoImage → found_in kept seen was ≡ None

-- a commit of so many bytes may be made, and the keeper and both disks have room for it
pub record HasRoom {K D : Type 0} (Takes : K → ℕ → Type 0) (size_of : K → ℕ → ℕ) (room : D → ℕ) (keeper : K)
    (pair : Pair D) (length : ℕ) : Type 0 where
  pub takes : Takes keeper length
  pub room_a : size_of keeper length ≤ room pair.a
  pub room_b : size_of keeper length ≤ room pair.b

-- this is kept in place of what was; a crash after the call and at each moment of it leaves what was kept, or this
pub record Commits {K D A E : Type 0} (kept_by : List ℕ → List ℕ → Option Kept) (fits : K → List ℕ → List ℕ → Type 0)
    (Regular : List ℕ → List ℕ → Type 0) (seen : D → List ℕ) (may_leave : D → List ℕ → Type 0) (moment : D → ℕ)
    (left_since : D → ℕ → List ℕ → Type 0) (after : Option Kept) (keeper : K) (old new : Pair D) (result : Result A E)
    : Type 0 where
  pub kept : OnOk result (found_in kept_by seen new ≡ after)
  pub settled : OnOk result (Settled fits seen may_leave keeper new)
  pub crash : KeepsOneOf kept_by may_leave new (found_in kept_by seen old) after
  pub between : KeepsOneBetween kept_by moment left_since old new (found_in kept_by seen old) after
  pub regular : StaysRegular Regular may_leave old → StaysRegular Regular may_leave new

-- these bytes are saved as this generation, on one of the disks, and the other stays; where the disks tell their fuses,
-- these alone decide
pub record CommitsBytes {K D A E : Type 0} (kept : List ℕ → List ℕ → Option Kept) (fits : K → List ℕ → List ℕ → Type 0)
    (wants_image : K → Bool) (calls : ℕ → ℕ) (is_on_a : ℕ → Bool) (Regular : List ℕ → List ℕ → Type 0) (disk : Disk D)
    (generation : ℕ) (bytes : List ℕ) (was now : K) (old new : Pair D) (result : Result A E) : Type 0 where
  pub told : disk.tells → Commits kept fits Regular disk.seen disk.may_leave disk.moment disk.left_since
      (after_commit (wants_image was) generation bytes (found_in kept disk.seen old)) now old new result
  pub spans : disk.tells_moments → PairSpans disk.moment disk.left_since old new
  pub other : (new.a ≡ old.a) ⊎ (new.b ≡ old.b)
  pub counts : Counts disk.faults disk.armings old new result
  pub by_fuse : disk.tells_fuse → disk.tells → IsRegularIn Regular disk.seen old
      → FusedSave kept disk.seen disk.image disk.fuse (calls generation) (is_on_a generation) old new (is_ok result)
      (after_commit (wants_image was) generation bytes (found_in kept disk.seen old))
