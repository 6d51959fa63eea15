-- What each call of a replica's stable storage promises, by name.
use Rattle.std.specs.Prelude.{◌≡◌, ◌⊎◌, ℕ, List, Some, None, Result, is_ok, IfOk, IsErrOf, OnOk, OnErr}
use Rattle.ficus_disk.specs.Crash.{Only}
use Rattle.ficus_disk.specs.Pair.{PairRose}
use Rattle.ficus_disk.specs.declared.disk.Disk.{Ghosts as Disk}
use Rattle.ficus_disk.specs.declared.pair.Pair.{Pair}
use Rattle.ficus_keeper.specs.Calls.{AreAsBefore}
use Rattle.ficus_keeper.specs.Fuses.{IsRegularIn, Reopens, SameFuses, StaysRegular, both_unarmed, fuses_of}
use Rattle.ficus_keeper.specs.Kept.{found_in}
use Rattle.ficus_keeper.specs.Moments.{PairLeavesOld, PairSpans}
use Rattle.ficus_keeper.specs.Pairs.{PairLeft, PairSame, PairWithin}
use Rattle.ficus_keeper.specs.declared.fault.MakeFault.{MakeFault}
use Rattle.ficus_keeper.specs.declared.fault.MakeFault.TheVariants.{Failed as MakeFailed, Memory as MakeMemory}
use Rattle.ficus_keeper.specs.declared.fault.StoreFault.{StoreFault}
use Rattle.ficus_keeper.specs.declared.fault.StoreFault.TheVariants.{Failed, Memory, NoImage}
use Rattle.ficus_keeper.specs.declared.keep.Keep.{Ghosts as Keep}
use Rattle.ficus_durable_state.specs.Saved.{FitsImage}
use Rattle.ficus_durable_state.specs.declared.saved.Saved.{Saved}
use Rattle.ficus_stable_storage.specs.Leads.Holds.{Holds}
use Rattle.ficus_stable_storage.specs.Fuses.{DecidedByFuses}
use Rattle.ficus_stable_storage.specs.Holds.{HoldsOneBetween, HoldsOneOf}
use Rattle.ficus_stable_storage.specs.Stable.{IsPrepared, IsReady}
use Rattle.ficus_stable_storage.specs.declared.stable.Recovered.{Recovered}
use Rattle.ficus_stable_storage.specs.declared.stable.Stable.{Stable}

-- what a replica begins with is held, and durable on `a`, and `b` stays; where nothing was unsynced, a crash after the
-- call and at each moment of it leaves nothing, or this; where memory is refused, both disks are as before; without an
-- armed fuse nothing fails
pub record MakesState {K D A : Type 0} (keep : Keep K) (disk : Disk D) (first : Saved) (old new : Pair D)
    (result : Result A MakeFault) : Type 0 where
  pub holds : disk.tells → OnOk result (Holds (found_in keep.kept disk.seen new) first)
  pub durable : disk.tells → OnOk result (Only (disk.seen new.a) (disk.may_leave new.a))
  pub other : new.b ≡ old.b
  pub crash : disk.tells → Only (disk.seen old.a) (disk.may_leave old.a) → Only (disk.seen old.b) (disk.may_leave old.b)
      → HoldsOneOf keep.kept disk.may_leave new None (Some first)
  pub between : disk.tells → Only (disk.seen old.a) (disk.may_leave old.a)
      → Only (disk.seen old.b) (disk.may_leave old.b)
      → HoldsOneBetween keep.kept disk.moment disk.left_since old new None (Some first)
  pub armings : PairSame disk.armings old new
  pub failed : IsErrOf result MakeFailed → PairRose disk.faults 1 old new
  pub steady : OnOk result (PairSame disk.faults old new)
  pub refused : IsErrOf result MakeMemory → AreAsBefore disk old new
  pub risen : PairRose disk.faults 0 old new
  pub never : disk.tells_fuse → fuses_of disk.fuse old ≡ both_unarmed → IsErrOf result MakeFailed → ⊥
  pub unarmed : disk.tells_fuse → fuses_of disk.fuse old ≡ both_unarmed → fuses_of disk.fuse new ≡ both_unarmed
  pub regular : disk.tells → OnOk result (IsRegularIn keep.Regular disk.seen new)

-- what the disks hold is found, nothing exactly where they hold nothing that fits, and a read gives what it gave;
-- without an armed fuse nothing fails
pub record Opens {K D : Type 0} (keep : Keep K) (disk : Disk D) (old new : Pair D)
    (result : Result (Recovered K) StoreFault) : Type 0 where
  pub fits : IfOk result (λ found. FitsImage found.saved)
  pub ready : disk.tells → IfOk result (λ found. IsReady keep.kept keep.fits disk.seen disk.may_leave found.stable new
      found.saved)
  pub none : disk.tells → IsErrOf result NoImage → (saved : Saved) → FitsImage saved
      → Holds (found_in keep.kept disk.seen old) saved → ⊥
  pub same : disk.tells → PairSame disk.seen old new
  pub crash : PairWithin disk.may_leave old new
  pub moments : PairLeavesOld disk.moment disk.left_since disk.may_leave old new
  pub spans : disk.tells_moments → PairSpans disk.moment disk.left_since old new
  pub armings : PairSame disk.armings old new
  pub failed : IsErrOf result Failed → PairRose disk.faults 1 old new
  pub steady : OnOk result (PairSame disk.faults old new)
  pub spared : IsErrOf result Memory → PairSame disk.faults old new
  pub nothing : IsErrOf result NoImage → PairSame disk.faults old new
  pub risen : PairRose disk.faults 0 old new
  pub never : disk.tells_fuse → fuses_of disk.fuse old ≡ both_unarmed → IsErrOf result Failed → ⊥
  pub unarmed : disk.tells_fuse → fuses_of disk.fuse old ≡ both_unarmed → fuses_of disk.fuse new ≡ both_unarmed

-- what a crash might have left is found, nothing exactly where that holds nothing that fits; where the disks tell their
-- fuses, it never fails, and each becomes the image of its pick
pub record OpensAnew {K D : Type 0} (keep : Keep K) (disk : Disk D) (old new : Pair D)
    (result : Result (Recovered K) StoreFault) : Type 0 where
  pub fits : IfOk result (λ found. FitsImage found.saved)
  pub ready : disk.tells → IfOk result (λ found. IsReady keep.kept keep.fits disk.seen disk.may_leave found.stable new
      found.saved)
  pub none : disk.tells → IsErrOf result NoImage → (saved : Saved) → FitsImage saved
      → Holds (found_in keep.kept disk.seen new) saved → ⊥
  pub left : disk.tells → PairLeft disk.seen disk.may_leave old new
  pub crash : PairWithin disk.may_leave old new
  pub moments : PairLeavesOld disk.moment disk.left_since disk.may_leave old new
  pub spans : disk.tells_moments → PairSpans disk.moment disk.left_since old new
  pub armings : PairSame disk.armings old new
  pub failed : IsErrOf result Failed → PairRose disk.faults 1 old new
  pub steady : OnOk result (PairSame disk.faults old new)
  pub spared : IsErrOf result Memory → PairSame disk.faults old new
  pub nothing : IsErrOf result NoImage → PairSame disk.faults old new
  pub risen : PairRose disk.faults 0 old new
  pub never : disk.tells_fuse → IsErrOf result Failed → ⊥
  pub by_fuse : disk.tells_fuse → disk.tells → Reopens disk.seen disk.image disk.fuse old new

-- the next save is prepared, and what was ready stays so: a read gives what it gave, a crash leaves no more than
-- before, no fault is counted, and each fuse stays as it is
pub record Prepares {K D A E : Type 0} (keep : Keep K) (disk : Disk D) (next : Saved) (body : List ℕ)
    (was now : Stable K) (old new : Pair D) (result : Result A E) : Type 0 where
  pub prepared : OnOk result (IsPrepared keep.wants_image keep.Allows keep.size_of disk.room now new next body)
  pub ready : disk.tells → (saved : Saved) → IsReady keep.kept keep.fits disk.seen disk.may_leave was old saved
      → IsReady keep.kept keep.fits disk.seen disk.may_leave now new saved
  pub same : disk.tells → PairSame disk.seen old new
  pub crash : PairWithin disk.may_leave old new
  pub moments : PairLeavesOld disk.moment disk.left_since disk.may_leave old new
  pub spans : disk.tells_moments → PairSpans disk.moment disk.left_since old new
  pub armings : PairSame disk.armings old new
  pub steady : PairSame disk.faults old new
  pub fuses : disk.tells_fuse → SameFuses disk.image disk.fuse old new

-- this is held in place of what was, on one of the disks, and the other stays; a crash after the call and at each
-- moment of it leaves what was held, or this; where the disks tell their fuses, these alone decide
pub record CommitsState {K D A E : Type 0} (keep : Keep K) (disk : Disk D) (next : Saved) (now : Stable K)
    (old new : Pair D) (result : Result A E) : Type 0 where
  pub ready : disk.tells → OnOk result (IsReady keep.kept keep.fits disk.seen disk.may_leave now new next)
  pub crash : disk.tells → (saved : Saved) → Holds (found_in keep.kept disk.seen old) saved
      → HoldsOneOf keep.kept disk.may_leave new (Some saved) (Some next)
  pub between : disk.tells → (saved : Saved) → Holds (found_in keep.kept disk.seen old) saved
      → HoldsOneBetween keep.kept disk.moment disk.left_since old new (Some saved) (Some next)
  pub spans : disk.tells_moments → PairSpans disk.moment disk.left_since old new
  pub other : (new.a ≡ old.a) ⊎ (new.b ≡ old.b)
  pub armings : PairSame disk.armings old new
  pub failed : OnErr result (PairRose disk.faults 1 old new)
  pub steady : OnOk result (PairSame disk.faults old new)
  pub risen : PairRose disk.faults 0 old new
  pub regular : disk.tells → StaysRegular keep.Regular disk.may_leave old → StaysRegular keep.Regular disk.may_leave new
  pub by_fuse : disk.tells_fuse → disk.tells → IsRegularIn keep.Regular disk.seen old → (saved : Saved)
      → Holds (found_in keep.kept disk.seen old) saved
      → DecidedByFuses keep.kept disk.image disk.fuse (keep.calls next.generation) (keep.is_on_a next.generation) old
      new (is_ok result) saved next
