-- What it means that a machine is opened.
use Rattle.std.specs.Prelude.{◌≡◌, ◌≢◌, ◌⊎◌, ℕ, ◌≤◌, List, length, Option, Some, None, Result, IfOk, IsErrAnd, IsErrOf, OnOk}
use Rattle.ficus_disk.specs.Pair.{PairRose}
use Rattle.ficus_disk.specs.declared.disk.Disk.{Ghosts as Disk}
use Rattle.ficus_disk.specs.declared.pair.Pair.{Pair}
use Rattle.ficus_durable_state.specs.declared.saved.Saved.{Saved}
use Rattle.ficus_ids.specs.Members.{IsMember}
use Rattle.ficus_keeper.specs.Calls.{Keeps}
use Rattle.ficus_keeper.specs.Kept.{found_in}
use Rattle.ficus_keeper.specs.Pairs.{PairSame}
use Rattle.ficus_keeper.specs.declared.keep.Keep.{Ghosts as Keep}
use Rattle.ficus_note.specs.Calls.{IsReady}
use Rattle.ficus_note.specs.Noted.{FitsNote, HoldsAt, HoldsNote}
use Rattle.ficus_note.specs.declared.asked.Asked.{Asked as Noted}
use Rattle.ficus_note.specs.declared.note.Note.{Note}
use Rattle.ficus_opening.specs.Check.Judged.{HoldsNoneOf, IsEmptyPair}
use Rattle.ficus_opening.specs.Disks.{are_fused}
use Rattle.ficus_opening.specs.Opening.{IsAtFault, IsStoreFault, IsUnfailed, Steady}
use Rattle.ficus_opening.specs.Rests.{PairRests}
use Rattle.ficus_opening.specs.declared.fault.WorldFault.{WorldFault}
use Rattle.ficus_opening.specs.declared.fault.WorldFault.TheVariants.{Image, Memory, Occupied, Store}
use Rattle.ficus_opening.specs.declared.member.Member.{Member}
use Rattle.ficus_runs.specs.Numbered.{IsNumbered}
use Rattle.ficus_stable_storage.specs.Leads.Holds.{Holds}
use Rattle.ficus_two_slots.specs.Slots.{kept_in}
use Rattle.ficus_world.specs.Hearing.{Awaits, awaiting}
use Rattle.ficus_world.specs.Machines.Alone.{BeginsAnew, StandsAlone}
use Rattle.ficus_world.specs.Machines.Together.{Renews}
use Rattle.ficus_world.specs.Moves.{with_member}
use Rattle.ficus_world.specs.World.{Whole}
use Rattle.ficus_machine.specs.Machine.{IsAtRest, MachineState, ask_of}

-- the note of member `me` is opened
pub record OpensNote {N : Type 0} (slot : Disk N) (me : ℕ) (result : Result Note WorldFault) (old new : Pair N) :
    Type 0 where
  pub fits : IfOk result (λ note. FitsNote note.asked)
  pub found : slot.tells → IfOk result (λ note. HoldsAt (found_in kept_in slot.seen old) note.generation note.asked)
  pub ready : slot.tells → IfOk result (λ note. IsReady slot note new)
  -- `Image` comes exactly where no note is kept.
  pub image : slot.tells → (r : ℕ) → IsErrOf result (Image r) → (r ≡ me)
      × ((noted : Option Noted) → FitsNote noted → HoldsNote (found_in kept_in slot.seen old) noted → ⊥)
  pub failed : (r : ℕ) → IsErrOf result (Store r) → (r ≡ me) × PairRose slot.faults 1 old new
  pub spared : (fault : WorldFault) → IsUnfailed fault → IsErrOf result fault → PairSame slot.faults old new
  pub steady : OnOk result (PairSame slot.faults old new)
  pub never : (r : ℕ) → IsErrOf result (Occupied r) → ⊥
  pub keeps : Keeps slot.tells slot.tells_moments slot.seen slot.may_leave slot.moment slot.left_since old new

-- Whatever machine of this member was here before, at rest with this ask noted, and where its disks hold what it had
-- saved: this world goes on from there, and no more has happened.
abbrev pub Resumes : {K D : Type 0} → Keep K → Disk D → ℕ → Noted → List (Pair D) → Whole → Type 0
Resumes {K} {D} keep disk me noted old world =
    (machine : Whole) (member : Member) (own : Pair D) → IsNumbered machine.members me member
    → Awaits machine me (ask_of noted) → IsNumbered old me own
    → Holds (found_in keep.kept disk.seen own) member.replica.saved
    → member.replica.saved.members ≡ length machine.members → member.fused ≡ are_fused disk.armings own
    → Renews me machine world

-- member `me` waits for the answer to the ask that is noted, where one is, and holds no piece of it
abbrev pub WaitsAsNoted : ℕ → Option Noted → Whole → Whole → Type 0
WaitsAsNoted me None old new = new ≡ old
WaitsAsNoted me (Some noted) old new =
    (was : Member) → IsNumbered old.members me was → new ≡ with_member old me (awaiting was (Some (ask_of noted)))

-- A machine of member `me` is opened. The pairs of the other members hold nothing before.
pub record OpensMachine {K D N : Type 0} (keep : Keep K) (disk : Disk D) (slot : Disk N) (me : ℕ) (tag : List ℕ)
    (result : Result (MachineState K) WorldFault) (old new : List (Pair D)) (slots slots_new : Pair N) : Type 0 where
  pub rest : IfOk result (λ machine. IsAtRest keep disk slot machine new slots_new)
  pub own : IfOk result (λ machine. machine.me ≡ me)
  pub tagged : IfOk result (λ machine. machine.tag ≡ tag)
  pub fits : IfOk result (λ machine. FitsNote machine.note.asked)
  pub noted : slot.tells → IfOk result (λ machine.
      HoldsAt (found_in kept_in slot.seen slots) machine.note.generation machine.note.asked)
  -- Where no ask is noted, it is the world of the member that has restarted.
  pub stands : disk.tells → IfOk result (λ machine. machine.note.asked ≡ None
      → StandsAlone keep disk me old machine.world.whole)
  pub begins : disk.tells → IfOk result (λ machine. machine.note.asked ≡ None
      → BeginsAnew keep disk me old machine.world.whole)
  -- Where one is, it goes on.
  pub resumes : disk.tells → IfOk result (λ machine. (noted : Noted) → machine.note.asked ≡ Some noted
      → Resumes keep disk me noted old machine.world.whole)
  -- `Image` comes exactly where the member's own disks hold nothing of its own, or no note is kept.
  pub image : disk.tells → slot.tells → (r : ℕ) → IsErrOf result (Image r) → (r ≡ me)
      × (((pair : Pair D) → IsNumbered old me pair → HoldsNoneOf keep.kept disk.seen me pair)
      ⊎ ((noted : Option Noted) → FitsNote noted → HoldsNote (found_in kept_in slot.seen slots) noted → ⊥))
  pub image_comes : disk.tells → ((pair : Pair D) → IsNumbered old me pair → HoldsNoneOf keep.kept disk.seen me pair)
      → IsErrAnd result (λ fault. (fault ≡ Image me) ⊎ IsStoreFault fault)
  -- `Occupied` comes exactly where another pair holds something that must hold nothing.
  pub empty : disk.tells → IfOk result (λ machine. (r : ℕ) (pair : Pair D) → r ≢ me
      → r ≤ length machine.world.whole.members → IsNumbered old r pair → IsEmptyPair disk.seen pair)
  pub occupied : disk.tells → (q : ℕ) → IsErrOf result (Occupied q) → (q ≢ me) × IsMember 8 q
      × ((pair : Pair D) → IsNumbered old q pair → IsEmptyPair disk.seen pair → ⊥)
  -- A disk has failed only where that is told, and is then told of the member to which it belongs.
  pub failed : (r : ℕ) → IsErrOf result (Store r)
      → IsAtFault disk.faults old new r ⊎ ((r ≡ me) × PairRose slot.faults 1 slots slots_new)
  pub spared : (fault : WorldFault) → IsUnfailed fault → IsErrOf result fault
      → Steady disk.faults old new × PairSame slot.faults slots slots_new
  pub steady : OnOk result (Steady disk.faults old new × PairSame slot.faults slots slots_new)
  -- It writes no byte to the member's own disks, and none to those of the note.
  pub rests : (was now : Pair D) → IsNumbered old me was → IsNumbered new me now → PairRests disk was now
  pub keeps : Keeps slot.tells slot.tells_moments slot.seen slot.may_leave slot.moment slot.left_since slots slots_new
