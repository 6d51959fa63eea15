-- A machine of one member, and what holds of it between its lines.
use Rattle.std.specs.Prelude.{◌≡◌, ℕ, ◌<◌, List, [], length, Option, Some, None}
use Rattle.ficus_disk.specs.declared.disk.Disk.{Ghosts as Disk}
use Rattle.ficus_disk.specs.declared.pair.Pair.{Pair}
use Rattle.ficus_ids.specs.Members.{IsMember}
use Rattle.ficus_keeper.specs.declared.keep.Keep.{Ghosts as Keep}
use Rattle.ficus_note.specs.Calls.{IsReady}
use Rattle.ficus_note.specs.declared.asked.Asked.{Asked as Noted}
use Rattle.ficus_note.specs.declared.note.Note.{Note}
use Rattle.ficus_replica.specs.declared.replica.Asked.{Asked}
use Rattle.ficus_world.specs.Disks.{IsBacked}
use Rattle.ficus_world.specs.Hearing.{Awaits}
use Rattle.ficus_world.specs.Post.{Outbox}
use Rattle.ficus_world.specs.World.{Backed, Whole}

-- the member, the tag of its volume, its world, in which all others are down, and the note of its open ask
pub record MachineState (K : Type 0) : Type 0 where
  pub me : ℕ
  pub tag : List ℕ
  pub world : Backed K
  pub note : Note

-- an ask as the note has it, and as a replica has it
abbrev pub ask_of : Noted → Asked
ask_of noted = record { to = noted.to; number = noted.number }

-- What is noted is the open ask of the member, which is up and holds no piece of the answer. Where nothing is noted it
-- waits for none.
abbrev pub IsNoted : Whole → ℕ → Option Noted → Type 0
IsNoted world me None = (ask : Asked) → Awaits world me ask → ⊥
IsNoted world me (Some noted) = Awaits world me (ask_of noted)

-- the disks of the member and of the note stand under the machine
pub record IsHeld {K D N : Type 0} (keep : Keep K) (disk : Disk D) (slot : Disk N) (machine : MachineState K)
    (disks : List (Pair D)) (slots : Pair N) : Type 0 where
  pub member : IsMember (length machine.world.whole.members) machine.me
  pub backed : IsBacked keep disk machine.world disks
  pub ready : slot.tells → IsReady slot machine.note slots

-- nothing has been posted on its link
abbrev pub no_post : Outbox
no_post = record { behind = []; posts = []; total = 0; faults = 0 }

-- and between lines it has no message, and what is noted is right
pub record IsAtRest {K D N : Type 0} (keep : Keep K) (disk : Disk D) (slot : Disk N) (machine : MachineState K)
    (disks : List (Pair D)) (slots : Pair N) : Type 0 where
  pub held : IsHeld keep disk slot machine disks slots
  pub post : machine.world.whole.post ≡ no_post
  pub noted : IsNoted machine.world.whole machine.me machine.note.asked

-- nothing of the machine has changed but its world and its note
pub record KeepsMachine {K : Type 0} (old new : MachineState K) : Type 0 where
  pub me : new.me ≡ old.me
  pub tag : new.tag ≡ old.tag

-- and its note stays too
pub record KeepsRest {K : Type 0} (old new : MachineState K) : Type 0 where
  pub me : new.me ≡ old.me
  pub tag : new.tag ≡ old.tag
  pub note : new.note ≡ old.note
