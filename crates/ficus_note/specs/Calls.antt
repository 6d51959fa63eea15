-- What each call of a note promises, by name.
use Rattle.std.specs.Prelude.{◌≡◌, ◌≢◌, ◌⊎◌, ℕ, ◌+◌, ◌≤◌, Option, None, Result, IfOk, IsErrOf, OnOk}
use Rattle.ficus_disk.specs.Pair.{PairRose}
use Rattle.ficus_disk.specs.declared.disk.Disk.{Ghosts as Disk}
use Rattle.ficus_disk.specs.declared.pair.Pair.{Pair}
use Rattle.ficus_keeper.specs.Calls.{Counts, HasRoom, Keeps}
use Rattle.ficus_keeper.specs.Kept.{Settled, found_in}
use Rattle.ficus_keeper.specs.Moments.{PairSpans}
use Rattle.ficus_keeper.specs.Pairs.{PairSame}
use Rattle.ficus_slot.specs.Slot.{range_size}
use Rattle.ficus_two_slots.specs.Slots.{kept_in}
use Rattle.ficus_two_slots.specs.TwoSlot.{Fits, room_in}
use Rattle.ficus_note.specs.Noted.{FitsNote, HoldsAt, HoldsNote, NotesOneBetween, NotesOneOf}
use Rattle.ficus_note.specs.declared.asked.Asked.{Asked}
use Rattle.ficus_note.specs.declared.fault.NoteFault.{NoteFault}
use Rattle.ficus_note.specs.declared.fault.NoteFault.TheVariants.{Failed, NoNote, Damaged}
use Rattle.ficus_note.specs.declared.note.Note.{Note}

-- the pair holds what is noted, its keeper fits it, and nothing is unsynced
pub record IsReady {D : Type 0} (disk : Disk D) (note : Note) (pair : Pair D) : Type 0 where
  pub holds : HoldsAt (found_in kept_in disk.seen pair) note.generation note.asked
  pub settled : Settled Fits disk.seen disk.may_leave note.keeper pair

-- the keeper's buffer and both disks have room for a note
abbrev pub IsPrepared : {D : Type 0} → (D → ℕ) → Note → Pair D → Type 0
IsPrepared room note pair = HasRoom (λ keeper length. range_size + length ≤ room_in keeper)
    (λ _ length. 1 + range_size + length) room note.keeper pair 9

-- what the disks hold is found: nothing exactly where nothing is kept, and damage where that is no note. A read gives
-- what it gave, a crash leaves no more than before, and a disk has failed only where that is told
pub record Opens {D : Type 0} (disk : Disk D) (old new : Pair D) (result : Result Note NoteFault) : Type 0 where
  pub fits : IfOk result (λ note. FitsNote note.asked)
  pub found : disk.tells → IfOk result (λ note. HoldsAt (found_in kept_in disk.seen old) note.generation note.asked)
  pub ready : disk.tells → IfOk result (λ note. IsReady disk note new)
  pub none : disk.tells → IsErrOf result NoNote → found_in kept_in disk.seen old ≡ None
  pub damaged : disk.tells → IsErrOf result Damaged → (noted : Option Asked) → FitsNote noted
      → HoldsNote (found_in kept_in disk.seen old) noted → ⊥
  pub keeps : Keeps disk.tells disk.tells_moments disk.seen disk.may_leave disk.moment disk.left_since old new
  pub armings : PairSame disk.armings old new
  pub failed : IsErrOf result Failed → PairRose disk.faults 1 old new
  pub steady : OnOk result (PairSame disk.faults old new)
  pub spared : (fault : NoteFault) → fault ≢ Failed → IsErrOf result fault → PairSame disk.faults old new
  pub risen : PairRose disk.faults 0 old new

-- this is noted in place of what was, on one of the disks, and the other stays; a crash after the call and at each
-- moment of it leaves what was noted, or this
pub record Saves {D A E : Type 0} (disk : Disk D) (noted : Option Asked) (was now : Note) (old new : Pair D)
    (result : Result A E) : Type 0 where
  pub ready : disk.tells → OnOk result (IsReady disk now new)
  pub asked : OnOk result (now.asked ≡ noted)
  pub crash : disk.tells → NotesOneOf disk.may_leave new was.asked noted
  pub between : disk.tells → NotesOneBetween disk.moment disk.left_since old new was.asked noted
  pub spans : disk.tells_moments → PairSpans disk.moment disk.left_since old new
  pub other : (new.a ≡ old.a) ⊎ (new.b ≡ old.b)
  pub counts : Counts disk.faults disk.armings old new result
