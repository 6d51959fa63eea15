-- What becomes of a machine once a message was taken, or wasn't.
use Rattle.std.specs.Prelude.{◌≡◌, Option, Some, Result, Ok, Err, IfErr, IfOk, OnOk}
use Rattle.ficus_disk.specs.declared.disk.Disk.{Ghosts as Disk}
use Rattle.ficus_disk.specs.declared.pair.Pair.{Pair}
use Rattle.ficus_note.specs.Calls.{IsReady}
use Rattle.ficus_note.specs.declared.asked.Asked.{Asked as Noted}
use Rattle.ficus_opening.specs.declared.member.Member.{Member}
use Rattle.ficus_replica.specs.declared.replica.Asked.{Asked}
use Rattle.ficus_runs.specs.Numbered.{IsNumbered}
use Rattle.ficus_world.specs.Hearing.{awaiting}
use Rattle.ficus_world.specs.Moves.{with_member, with_post}
use Rattle.ficus_machine.specs.Machine.{IsNoted, KeepsMachine, MachineState, no_post}
use Rattle.ficus_machine.specs.Noting.{AsksSlots, SavesNote}
use Rattle.ficus_machine.specs.declared.fault.LineFault.{LineFault}

-- Its world has no message any more. Where a call has come to an answer, what is noted is right, or why that isn't
-- noted takes the answer's place; and where it hasn't, the note stays.
pub record Finishes {K N A : Type 0} (slot : Disk N) (came_to result : Result A LineFault) (was now : MachineState K)
    (old new : Pair N) : Type 0 where
  pub renewed : now.world.whole ≡ with_post was.world.whole no_post
  pub stables : now.world.stables ≡ was.world.stables
  pub answers : IfOk result (λ answer. came_to ≡ Ok answer)
  pub noted : OnOk result (IsNoted now.world.whole now.me now.note.asked)
  pub ready : slot.tells → OnOk result (IsReady slot now.note new)
  pub same : KeepsMachine was now
  pub asks : OnOk came_to (AsksSlots slot result now.note old new)
  pub stays : IfErr came_to (λ fault. (result ≡ Err fault) × (now.note ≡ was.note) × (new ≡ old))

-- its member waits for the answer to this ask, and this is noted
pub record Undoes {K N A : Type 0} (slot : Disk N) (asked : Asked) (noted : Option Noted) (result : Result A LineFault)
    (was now : MachineState K) (old new : Pair N) : Type 0 where
  pub waits : (member : Member) → IsNumbered was.world.whole.members was.me member
      → now.world.whole ≡ with_post (with_member was.world.whole was.me (awaiting member (Some asked))) no_post
  pub stables : now.world.stables ≡ was.world.stables
  pub saves : SavesNote slot noted result was.note now.note old new
  pub same : KeepsMachine was now
