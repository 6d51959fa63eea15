-- What becomes of the note of the open ask.
use Rattle.std.specs.Prelude.{◌≡◌, ◌⊎◌, ℕ, ◌-◌, ◌<◌, ◌^◌, Option, None, Result, IsErrOf, OnErr, OnOk}
use Rattle.ficus_disk.specs.Pair.{PairRose}
use Rattle.ficus_disk.specs.declared.disk.Disk.{Ghosts as Disk}
use Rattle.ficus_disk.specs.declared.pair.Pair.{Pair}
use Rattle.ficus_keeper.specs.Pairs.{PairSame}
use Rattle.ficus_note.specs.Calls.{IsPrepared, IsReady}
use Rattle.ficus_note.specs.declared.asked.Asked.{Asked as Noted}
use Rattle.ficus_note.specs.declared.note.Note.{Note}
use Rattle.ficus_machine.specs.Machine.{IsNoted, MachineState}
use Rattle.ficus_machine.specs.declared.fault.LineFault.{LineFault}
use Rattle.ficus_machine.specs.declared.fault.LineFault.TheVariants.{Memory}
use Rattle.ficus_machine.specs.declared.fault.LineFault.TheVariants as line

-- no further note can be saved
abbrev pub IsFull : Note → Type 0
IsFull note = note.generation ≡ 2 ^ 64 - 1

-- What a call has done to the disks of the note: where it ended for the note, one of them failed, or no further one
-- can be saved than the note that it leaves; and only then has one failed.
pub record AsksSlots {N A : Type 0} (slot : Disk N) (result : Result A LineFault) (now : Note) (old new : Pair N) :
    Type 0 where
  pub failed : IsErrOf result line.Note → PairRose slot.faults 1 old new ⊎ IsFull now
  pub steady : OnOk result (PairSame slot.faults old new)
  pub spared : IsErrOf result Memory → PairSame slot.faults old new
  pub risen : PairRose slot.faults 0 old new

-- this is noted
pub record SavesNote {N A : Type 0} (slot : Disk N) (noted : Option Noted) (result : Result A LineFault)
    (was now : Note) (old new : Pair N) : Type 0 where
  pub asked : OnOk result (now.asked ≡ noted)
  pub ready : slot.tells → OnOk result (IsReady slot now new)
  pub asks : AsksSlots slot result now old new

-- all is ready for one more note
pub record PreparesNote {N A : Type 0} (slot : Disk N) (result : Result A LineFault) (was now : Note)
    (old new : Pair N) : Type 0 where
  pub asked : now.asked ≡ was.asked
  pub ready : slot.tells → IsReady slot now new
  pub prepared : OnOk result (IsPrepared slot.room now new)
  pub next : OnOk result (now.generation < 2 ^ 64 - 1)
  pub asks : AsksSlots slot result now old new

-- What is noted is right afterwards. All else of the machine stays.
pub record SettlesNote {K N A : Type 0} (slot : Disk N) (result : Result A LineFault) (was now : MachineState K)
    (old new : Pair N) : Type 0 where
  pub noted : OnOk result (IsNoted now.world.whole now.me now.note.asked)
  pub ready : slot.tells → OnOk result (IsReady slot now.note new)
  pub world : now.world ≡ was.world
  pub me : now.me ≡ was.me
  pub tag : now.tag ≡ was.tag
  pub asks : AsksSlots slot result now.note old new
