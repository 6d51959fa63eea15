-- What a machine does to its disks and to its note at each of its moments, so that a kill at any of them is known.
use Rattle.std.specs.Prelude.{◌≡◌, ◌⊎◌, ℕ, List, Option, Some, None, Result, IsErrOf}
use Rattle.ficus_disk.specs.declared.disk.Disk.{Ghosts as Disk}
use Rattle.ficus_disk.specs.declared.pair.Pair.{Pair}
use Rattle.ficus_keeper.specs.Calls.{Keeps}
use Rattle.ficus_keeper.specs.Moments.{PairSpans}
use Rattle.ficus_keeper.specs.declared.keep.Keep.{Ghosts as Keep}
use Rattle.ficus_note.specs.Noted.{NotesOneBetween}
use Rattle.ficus_note.specs.declared.asked.Asked.{Asked as Noted}
use Rattle.ficus_note.specs.declared.note.Note.{Note}
use Rattle.ficus_opening.specs.declared.member.Member.{Member}
use Rattle.ficus_opening.specs.declared.member.MemberState.TheVariants.{Down, Up}
use Rattle.ficus_opening.specs.declared.member.Pending.{Pending}
use Rattle.ficus_replica.specs.declared.replica.Replica.{Replica}
use Rattle.ficus_runs.specs.Numbered.{IsNumbered}
use Rattle.ficus_script.specs.declared.command.Command.{Command}
use Rattle.ficus_world.specs.Kills.{IsDeedOf, Passes}
use Rattle.ficus_world.specs.World.{Whole}
use Rattle.ficus_machine.specs.Answers.{OnlyHolds}
use Rattle.ficus_machine.specs.Machine.{MachineState, ask_of}
use Rattle.ficus_machine.specs.declared.fault.LineFault.{LineFault}
use Rattle.ficus_machine.specs.declared.fault.LineFault.TheVariants.{Note as NoteFault}

-- what is noted is the ask of this replica, where something is noted
abbrev pub IsAskOf : Option Noted → Replica → Type 0
IsAskOf None replica = Unit {0}
IsAskOf (Some noted) replica = replica.ask ≡ Some (ask_of noted)

-- What is noted is the open ask of the member, which is up then, whether or not it holds a piece of the answer. Where
-- nothing is noted nothing is said.
abbrev pub IsOpenIn : Whole → ℕ → Option Noted → Type 0
IsOpenIn world me None = Unit {0}
IsOpenIn world me (Some noted) =
    (member : Member) → IsNumbered world.members me member → (member.state ≡ Up) × IsAskOf (Some noted) member.replica

-- From the one member to the other nothing is saved, or what is saved leaves its ask as it was; and so does what is
-- pending, where a save has failed.
pub record LeavesAsk (was now : Member) : Type 0 where
  pub saved : (now.replica.saved ≡ was.replica.saved) ⊎ (now.replica.ask ≡ was.replica.ask)
  pub pending : (pending : Pending) → was.state ≡ Up → now.state ≡ Down (Some pending)
      → pending.replica.ask ≡ was.replica.ask

-- so it is of member r
abbrev pub LeavesAskOf : ℕ → Whole → Whole → Type 0
LeavesAskOf r old new =
    (was now : Member) → IsNumbered old.members r was → IsNumbered new.members r now → LeavesAsk was now

-- Where something is noted, what the member saves meanwhile leaves its ask as it was.
abbrev pub LeavesNoted : ℕ → Option Noted → Whole → Whole → Type 0
LeavesNoted r None old new = Unit {0}
LeavesNoted r (Some noted) old new = LeavesAskOf r old new

-- What becomes of a world and its disks from one moment to a later one, link by link, while this is noted. A kill at a
-- moment of a link leaves of the disks what its ends say (`Passes`), and the note.
pub data Works {K D : Type 0} (keep : Keep K) (disk : Disk D) (me : ℕ) (noted : Option Noted) :
    Whole → Whole → List (Pair D) → List (Pair D) → Type 0 where
  -- No disk is called: only what the member holds of an answer, and the messages of its link have changed.
  Holds : {world after : Whole} {disks : List (Pair D)} → OnlyHolds me world after
      → Works keep disk me noted world after disks disks
  -- The world does something. What is noted is open, and stays so in what the member saves. That is a claim where the
  -- disks tell what they hold, since a restart reads it.
  Does : {world after : Whole} {disks new : List (Pair D)} (command : Command)
      → Passes (Unit {0}) keep disk (IsDeedOf command) world after disks new → IsOpenIn world me noted
      → (disk.tells → LeavesNoted me noted world after) → Works keep disk me noted world after disks new
  -- One thing is done behind the other.
  Joins : {world middle after : Whole} {disks mid new : List (Pair D)} → Works keep disk me noted world middle disks mid
      → Works keep disk me noted middle after mid new → Works keep disk me noted world after disks new

-- What becomes of the note and its disks from one moment to a later one, call by call.
pub data Noting {N : Type 0} (slot : Disk N) : Option Noted → Option Noted → Pair N → Pair N → Type 0 where
  -- No disk is called.
  Rests : {noted : Option Noted} {slots : Pair N} → Noting slot noted noted slots slots
  -- Room is taken: a crash leaves no more than before.
  TakesRoom : {noted : Option Noted} {old new : Pair N}
      → Keeps slot.tells slot.tells_moments slot.seen slot.may_leave slot.moment slot.left_since old new
      → Noting slot noted noted old new
  -- It is saved: a crash at each moment leaves what was noted, or this.
  Saves : {noted next : Option Noted} {old new : Pair N}
      → (slot.tells → NotesOneBetween slot.moment slot.left_since old new noted next)
      → (slot.tells_moments → PairSpans slot.moment slot.left_since old new) → Noting slot noted next old new
  Follows : {noted middle next : Option Noted} {old mid new : Pair N} → Noting slot noted middle old mid
      → Noting slot middle next mid new → Noting slot noted next old new

-- A call has brought the note to this. Unless no further note can be saved this is what is noted then.
pub record NotesTo {N A : Type 0} (slot : Disk N) (result : Result A LineFault) (was now : Note) (old new : Pair N) :
    Type 0 where
  pub noted : Option Noted
  pub is : (IsErrOf result NoteFault → ⊥) → now.asked ≡ noted
  pub noting : Noting slot was.asked noted old new

-- a machine at a moment: its world, what is noted, its disks, and those of its note
pub record Moment (D N : Type 0) : Type 0 where
  pub world : Whole
  pub noted : Option Noted
  pub disks : List (Pair D)
  pub slots : Pair N

-- What becomes of a machine from one moment to a later one: its world and its disks, or its note and the disks of that,
-- and never both at once. So a kill leaves the one as it stands, and of the other what is said there.
pub data Lives {K D N : Type 0} (keep : Keep K) (disk : Disk D) (slot : Disk N) (me : ℕ) :
    Moment D N → Moment D N → Type 0 where
  Working : {world after : Whole} {noted : Option Noted} {disks new : List (Pair D)} {slots : Pair N}
      → Works keep disk me noted world after disks new
      → Lives keep disk slot me (record { world = world; noted = noted; disks = disks; slots = slots })
      (record { world = after; noted = noted; disks = new; slots = slots })
  Notes : {world : Whole} {noted next : Option Noted} {disks : List (Pair D)} {slots new : Pair N}
      → Noting slot noted next slots new
      → Lives keep disk slot me (record { world = world; noted = noted; disks = disks; slots = slots })
      (record { world = world; noted = next; disks = disks; slots = new })
  Then : {old middle new : Moment D N} → Lives keep disk slot me old middle → Lives keep disk slot me middle new
      → Lives keep disk slot me old new

-- a machine, with its disks and those of its note, as it stands
abbrev pub moment_of : {K D N : Type 0} → MachineState K → List (Pair D) → Pair N → Moment D N
moment_of machine disks slots =
    record { world = machine.world.whole; noted = machine.note.asked; disks = disks; slots = slots }

-- A call has brought the machine to this. Where all notes were saved, this is what is noted then.
pub record LivesTo {K D N : Type 0} (keep : Keep K) (disk : Disk D) (slot : Disk N) (all_noted : Type 0)
    (old new : MachineState K) (disks new_disks : List (Pair D)) (slots new_slots : Pair N) : Type 0 where
  pub noted : Option Noted
  pub is : all_noted → new.note.asked ≡ noted
  pub lives : Lives keep disk slot old.me (moment_of old disks slots)
      (record { world = new.world.whole; noted = noted; disks = new_disks; slots = new_slots })
