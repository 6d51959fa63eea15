-- What an ask comes to.
use Rattle.std.specs.Prelude.{◌≡◌, ℕ, ◌-◌, ◌<◌, ◌^◌, ◌∷◌, [], ◌++◌, length, Some, None, Result, IfOk, OnOk}
use Rattle.ficus_disk.specs.declared.disk.Disk.{Ghosts as Disk}
use Rattle.ficus_disk.specs.declared.pair.Pair.{Pair}
use Rattle.ficus_note.specs.Calls.{IsPrepared, IsReady}
use Rattle.ficus_replica.specs.declared.replica.Asked.{Asked}
use Rattle.ficus_wire.specs.Message.{FitsMessage, message_bytes}
use Rattle.ficus_wire.specs.declared.message.Message.TheVariants as message
use Rattle.ficus_world.specs.Hearing.{Awaits}
use Rattle.ficus_world.specs.World.{Whole}
use Rattle.ficus_machine.specs.Machine.{KeepsMachine, MachineState}
use Rattle.ficus_machine.specs.Noting.{AsksSlots}
use Rattle.ficus_machine.specs.declared.fault.LineFault.{LineFault}

-- member r has asked this one, and waits for the answer; the message is posted
pub record HasAsked (r to : ℕ) (old new : Whole) : Type 0 where
  pub number : ℕ
  pub fits : FitsMessage (length old.members) (message.Ask r to number)
  pub awaits : Awaits new r (record { to = to; number = number })
  pub posts : new.post.posts ≡ old.post.posts ++ message_bytes (message.Ask r to number) ∷ []

-- no ask is noted, and all is ready for one
pub record PreparesAsk {K N A : Type 0} (slot : Disk N) (result : Result A LineFault) (was now : MachineState K)
    (old new : Pair N) : Type 0 where
  pub none : OnOk result (now.note.asked ≡ None)
  pub ready : slot.tells → OnOk result (IsReady slot now.note new)
  pub prepared : OnOk result (IsPrepared slot.room now.note new)
  pub next : OnOk result (now.note.generation < 2 ^ 64 - 1)
  pub world : now.world ≡ was.world
  pub same : KeepsMachine was now
  pub slots : AsksSlots slot result now.note old new

-- the ask for whose answer the member waits is noted
pub record NotesAsk {K N : Type 0} (slot : Disk N) (result : Result Asked LineFault) (was now : MachineState K)
    (old new : Pair N) : Type 0 where
  pub awaits : IfOk result (λ asked. Awaits was.world.whole was.me asked)
  pub noted : IfOk result (λ asked. now.note.asked ≡ Some (record { to = asked.to; number = asked.number }))
  pub ready : slot.tells → OnOk result (IsReady slot now.note new)
  pub world : now.world ≡ was.world
  pub same : KeepsMachine was now
  pub slots : AsksSlots slot result now.note old new
