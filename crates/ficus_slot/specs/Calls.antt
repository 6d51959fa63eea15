-- What each call on the disk of a slot promises, by name.
use Rattle.std.specs.Prelude.{◌≡◌, ◌⊎◌, ℕ, ◌≤◌, Bool, true, false, List, length, Vec, vec_items, vec_capacity}
use Rattle.std.specs.Prelude.{Result, is_ok, IfOk, IsErrOf, OnOk, OnErr}
use Rattle.std.specs.declared.alloc.Global.{Global}
use Rattle.ficus_faults.specs.Faults.{Rose}
use Rattle.ficus_disk.specs.Bytes.{Torn, patch}
use Rattle.ficus_disk.specs.Crash.{Follows, Only, Within}
use Rattle.ficus_disk.specs.Fuse.{is_intact, pick_of, picked}
use Rattle.ficus_disk.specs.declared.disk.Disk.{Ghosts as Disk}
use Rattle.ficus_disk.specs.declared.fuse.Pick.{Pick}
use Rattle.ficus_keeper.specs.Fuses.{after_calls, finds, lasts}
use Rattle.ficus_keeper.specs.Moments.{LeavesOnly, Spans}
use Rattle.ficus_keeper.specs.declared.fault.StoreFault.{StoreFault}
use Rattle.ficus_keeper.specs.declared.fault.StoreFault.TheVariants.{Failed, Memory, NoImage}

-- nothing is unsynced: a crash leaves what a read gives
abbrev pub IsSynced : {D : Type 0} → Disk D → D → Type 0
IsSynced disk now = Only (disk.seen now) (disk.may_leave now)

-- a crash at a moment between these states leaves what has P
abbrev pub LeavesBetween : {D : Type 0} → Disk D → D → D → (List ℕ → Type 0) → Type 0
LeavesBetween disk old new P =
    LeavesOnly (disk.moment old) (disk.moment new) (disk.left_since old) (disk.left_since new) P

-- where the disk tells its moments, those between these states are all that were added
abbrev pub SpansBetween : {D : Type 0} → Disk D → D → D → Type 0
SpansBetween disk old new = disk.tells_moments
    → Spans (disk.moment old) (disk.moment new) (disk.left_since old) (disk.left_since new)

-- so many calls of `write` and `sync` are made in turn, until one fails; no room is lost, and no fuse is armed; where
-- the disk tells its fuse, it alone decides whether all of them pass
pub record MakesCalls {D A E : Type 0} (disk : Disk D) (calls : ℕ) (old new : D) (result : Result A E) : Type 0 where
  pub spans : SpansBetween disk old new
  pub room : disk.room old ≤ disk.room new
  pub failed : OnErr result (Rose (disk.faults old) (disk.faults new))
  pub steady : OnOk result (disk.faults new ≡ disk.faults old)
  pub risen : disk.faults old ≤ disk.faults new
  pub armings : disk.armings new ≡ disk.armings old
  pub by_fuse : disk.tells_fuse → is_ok result ≡ lasts calls (disk.fuse old)
  pub falls : disk.tells_fuse → OnOk result (disk.fuse new ≡ after_calls calls (disk.fuse old))
  pub pick : disk.tells_fuse → OnErr result (pick_of (disk.fuse new) ≡ pick_of (disk.fuse old))

-- bytes are saved by so many calls of the disk, and the buffer keeps its room; `Leaves found was c` says what is left
-- of what was, where the save is found and where it isn't: after the call and at each moment of it a crash leaves one
-- of the two, where nothing was unsynced; where the disk tells its fuse, it alone decides whether the save passes, and
-- which of the two is found once the disk is opened again
pub record SavesBytes {D A E : Type 0} (disk : Disk D) (Leaves : Bool → List ℕ → List ℕ → Type 0) (calls : ℕ)
    (was now : Vec ℕ Global) (old new : D) (result : Result A E) : Type 0 where
  pub saved : disk.tells → OnOk result (Leaves true (disk.seen old) (disk.seen new))
  pub durable : disk.tells → OnOk result (IsSynced disk new)
  pub crash : disk.tells → IsSynced disk old → (c : List ℕ) → disk.may_leave new c
      → Leaves false (disk.seen old) c ⊎ Leaves true (disk.seen old) c
  pub moments : disk.tells → IsSynced disk old
      → LeavesBetween disk old new (λ c. Leaves false (disk.seen old) c ⊎ Leaves true (disk.seen old) c)
  pub made : MakesCalls disk calls old new result
  pub buffer : vec_capacity was ≤ vec_capacity now
  pub found : disk.tells_fuse → disk.tells → IsSynced disk old → OnErr result
      (Leaves (finds calls (disk.fuse old)) (disk.seen old) (disk.image new (pick_of (disk.fuse old))))

-- a range is written and synced: a crash after the call and at each moment of it leaves what it might have left before,
-- but for bytes in the range; where the disk tells its fuse, both calls pass or it fails, with what the write has begun
pub record SavesRange {D A E : Type 0} (disk : Disk D) (at : ℕ) (bytes : List ℕ) (old new : D) (result : Result A E)
    : Type 0 where
  pub saved : disk.tells → OnOk result (disk.seen new ≡ patch (disk.seen old) at bytes)
  pub durable : disk.tells → OnOk result (IsSynced disk new)
  pub crash : Follows (Torn at (length bytes)) (disk.may_leave old) (disk.may_leave new)
  pub moments : LeavesBetween disk old new (λ c. (d : List ℕ) × disk.may_leave old d × Torn at (length bytes) d c)
  pub made : MakesCalls disk 2 old new result
  pub images : disk.tells_fuse → OnErr result ((pick : Pick)
      → disk.image new pick ≡ picked pick (disk.image old pick) at bytes)

-- all bytes of a disk are read: a read gives what it gave, and a crash leaves no more than before; where the disk tells
-- its fuse, it fails only where that has blown
pub record ReadsWhole {D : Type 0} (disk : Disk D) (old new : D) (result : Result (Vec ℕ Global) StoreFault)
    : Type 0 where
  pub told : disk.tells → IfOk result (λ bytes. vec_items bytes ≡ disk.seen old)
  pub some : IsErrOf result NoImage → ⊥
  pub seen : disk.tells → disk.seen new ≡ disk.seen old
  pub crash : Within (disk.may_leave old) (disk.may_leave new)
  pub moments : LeavesBetween disk old new (disk.may_leave old)
  pub spans : SpansBetween disk old new
  pub room : disk.room old ≤ disk.room new
  pub failed : IsErrOf result Failed → Rose (disk.faults old) (disk.faults new)
  pub steady : OnOk result (disk.faults new ≡ disk.faults old)
  pub spared : IsErrOf result Memory → disk.faults new ≡ disk.faults old
  pub risen : disk.faults old ≤ disk.faults new
  pub armings : disk.armings new ≡ disk.armings old
  pub never : disk.tells_fuse → is_intact (disk.fuse old) ≡ true → IsErrOf result Failed → ⊥
  pub fuse : disk.tells_fuse → disk.fuse new ≡ disk.fuse old
