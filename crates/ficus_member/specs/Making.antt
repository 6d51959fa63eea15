-- What it means that a member is made.
use Rattle.std.specs.Prelude.{◌≡◌, ◌≢◌, ◌⊎◌, ◌↔◌, ℕ, Bool, List, [], Option, None, Result, IfErr, IfOk, IsErrAnd, IsErrOf, IsTrue, OnOk}
use Rattle.ficus_disk.specs.Crash.{Only}
use Rattle.ficus_disk.specs.Pair.{PairRose}
use Rattle.ficus_disk.specs.declared.disk.Disk.{Ghosts as Disk}
use Rattle.ficus_disk.specs.declared.pair.Pair.{Pair}
use Rattle.ficus_faults.specs.Faults.{Rose}
use Rattle.ficus_keeper.specs.Kept.{found_in}
use Rattle.ficus_keeper.specs.Pairs.{PairSame}
use Rattle.ficus_note.specs.Noted.{HoldsNote}
use Rattle.ficus_note.specs.declared.asked.Asked.{Asked as Noted}
use Rattle.ficus_opening.specs.Check.Judged.{IsEmptyPair}
use Rattle.ficus_opening.specs.Opening.{AreSynced, IsAtFault, IsStoreFault, IsSynced, IsUnfailed, SeenSame, Steady}
use Rattle.ficus_opening.specs.Rests.{AllRest, PairRests}
use Rattle.ficus_opening.specs.declared.fault.WorldFault.{WorldFault}
use Rattle.ficus_opening.specs.declared.fault.WorldFault.TheVariants.{Image, Memory, Occupied, Store}
use Rattle.ficus_replica.specs.SavedOf.{fresh_saved}
use Rattle.ficus_runs.specs.Numbered.{IsNumbered}
use Rattle.ficus_stable_storage.specs.Leads.Holds.{Holds}
use Rattle.ficus_top.specs.Making.{volume_of}
use Rattle.ficus_top.specs.Summary.Keeper.{kept_in}
use Rattle.ficus_two_slots.specs.Slots.{kept_in as note_in}
use Rattle.ficus_words.specs.declared.mode.Size.{Size}
use Rattle.ficus_member.specs.TagFile.{FileRests, tag_line}
use Rattle.ficus_member.specs.declared.beside.Beside.{Beside}

-- the disks of the member of this number hold nothing
abbrev pub IsEmptyAt : {D : Type 0} → (D → List ℕ) → List (Pair D) → ℕ → Type 0
IsEmptyAt {D} seen disks me = (own : Pair D) → IsNumbered disks me own → IsEmptyPair seen own

-- whatever a crash leaves of the pair, it holds what this member saves before anything has happened
pub record LeavesFresh {D : Type 0} (disk : Disk D) (size : Size) (me : ℕ) (own : Pair D) : Type 0 where
  pub each : (a b : List ℕ) → disk.may_leave own.a a → disk.may_leave own.b b
      → Holds (kept_in a b) (fresh_saved (volume_of size) me)

-- whatever a crash leaves of the note, it is this
pub record LeavesNote {N : Type 0} (slot : Disk N) (noted : Option Noted) (slots : Pair N) : Type 0 where
  pub each : (a b : List ℕ) → slot.may_leave slots.a a → slot.may_leave slots.b b → HoldsNote (note_in a b) noted

module _ {N : Type 0} (slot : Disk N) where
  -- nothing lies beside them
  pub record IsEmptyBeside (beside : Beside N) : Type 0 where
    pub slots : IsEmptyPair slot.seen beside.slots
    pub volume : slot.seen beside.volume ≡ []

  -- nothing is written there
  pub record BesideRests (old new : Beside N) : Type 0 where
    pub slots : PairRests slot old.slots new.slots
    pub volume : FileRests slot old.volume new.volume

  -- nothing has failed there
  pub record BesideSteady (old new : Beside N) : Type 0 where
    pub slots : PairSame slot.faults old.slots new.slots
    pub volume : slot.faults new.volume ≡ slot.faults old.volume

  -- a disk of the note has failed there, or the file of the tag
  abbrev pub BesideFailed : Beside N → Beside N → Type 0
  BesideFailed old new =
      PairRose slot.faults 1 old.slots new.slots ⊎ Rose (slot.faults old.volume) (slot.faults new.volume)

  -- a fault there is told with the number of the member, and was counted, and no other was
  pub record BesideAsked {A : Type 0} (me : ℕ) (result : Result A WorldFault) (old new : Beside N) : Type 0 where
    pub failed : (r : ℕ) → IsErrOf result (Store r) → (r ≡ me) × BesideFailed old new
    pub spared : (fault : WorldFault) → IsUnfailed fault → IsErrOf result fault → BesideSteady old new
    pub steady : OnOk result (BesideSteady old new)

  -- the file holds the line of the tag, and nothing of it is unsynced
  pub record HoldsTag (tag : List ℕ) (file : N) : Type 0 where
    pub written : slot.seen file ≡ tag_line tag
    pub durable : Only (tag_line tag) (slot.may_leave file)

  -- whether nothing lies beside the member's disks is told, and nothing is written there
  pub record LooksBeside (me : ℕ) (result : Result Bool WorldFault) (old new : Beside N) : Type 0 where
    pub empty : slot.tells → IfOk result (λ is. IsTrue is ↔ IsEmptyBeside old)
    pub still : slot.tells → IsEmptyBeside old → IsEmptyBeside new
    pub kinds : IfErr result (λ fault. fault ≡ Store me)
    pub rests : BesideRests old new
    pub asked : BesideAsked me result old new

  -- The tag is written, and then noted that no ask is open, where nothing lay beside the member's disks. The note isn't
  -- touched before the file holds the tag.
  pub record MakesBeside {A : Type 0} (me : ℕ) (tag : List ℕ) (result : Result A WorldFault) (old new : Beside N) :
      Type 0 where
    pub tagged : slot.tells → OnOk result (HoldsTag tag new.volume)
    pub noted : slot.tells → OnOk result (HoldsNote (found_in note_in slot.seen new.slots) None)
    -- Where nothing of the note was unsynced, no crash loses it.
    pub durable : slot.tells → IsSynced slot.seen slot.may_leave old.slots
        → OnOk result (LeavesNote slot None new.slots)
    pub order : slot.tells → (new.slots ≡ old.slots) ⊎ HoldsTag tag new.volume
    pub kinds : IfErr result IsStoreFault
    pub asked : BesideAsked me result old new

module _ {D N : Type 0} (disk : Disk D) (slot : Disk N) where
  -- nothing is there of the member
  pub record IsFree (me : ℕ) (disks : List (Pair D)) (beside : Beside N) : Type 0 where
    pub own : IsEmptyAt disk.seen disks me
    pub lies : IsEmptyBeside slot beside

  -- Whether nothing is there of the member was looked for, and nothing is written. `Occupied` comes exactly where
  -- something is.
  pub record LooksForMember (me : ℕ) (result : Result (Unit {0}) WorldFault) (old new : List (Pair D))
      (beside beside_new : Beside N) : Type 0 where
    pub own : disk.tells → OnOk result (IsEmptyAt disk.seen old me)
    pub lies : slot.tells → OnOk result (IsEmptyBeside slot beside × IsEmptyBeside slot beside_new)
    pub occupied : disk.tells → slot.tells → IsErrOf result (Occupied me) → IsFree me old beside → ⊥
    pub kinds : IfErr result (λ fault. (fault ≡ Store me) ⊎ (fault ≡ Occupied me))
    pub same : disk.tells → SeenSame disk.seen old new
    pub disks : AllRest disk old new
    pub rests : BesideRests slot beside beside_new
    pub failed : (r : ℕ) → IsErrOf result (Store r)
        → IsAtFault disk.faults old new r ⊎ ((r ≡ me) × BesideFailed slot beside beside_new)
    pub spared : (fault : WorldFault) → IsUnfailed fault → IsErrOf result fault
        → Steady disk.faults old new × BesideSteady slot beside beside_new
    pub steady : OnOk result (Steady disk.faults old new × BesideSteady slot beside beside_new)

  -- Member `me` of a fresh volume of this size is made, alone.
  pub record MakesMember (size : Size) (me : ℕ) (tag : List ℕ) (result : Result (Unit {0}) WorldFault)
      (old new : List (Pair D)) (beside beside_new : Beside N) : Type 0 where
    -- Its own disks hold what it saves before anything has happened; the note says that no ask is open; the file holds
    -- the tag.
    pub made : disk.tells → OnOk result ((own : Pair D) → IsNumbered new me own
        → Holds (found_in kept_in disk.seen own) (fresh_saved (volume_of size) me))
    pub noted : slot.tells → OnOk result (HoldsNote (found_in note_in slot.seen beside_new.slots) None)
    pub tagged : slot.tells → OnOk result (HoldsTag slot tag beside_new.volume)
    -- Where nothing was unsynced, no crash loses what the disks and the note hold.
    pub durable : disk.tells → AreSynced disk.seen disk.may_leave old size.members
        → OnOk result ((own : Pair D) → IsNumbered new me own → LeavesFresh disk size me own)
    pub durable_note : slot.tells → IsSynced slot.seen slot.may_leave beside.slots
        → OnOk result (LeavesNote slot None beside_new.slots)
    -- In this order: the note isn't touched before the file holds the tag, and nothing is written on the member's disks
    -- before there are both.
    pub first : slot.tells → PairRests slot beside.slots beside_new.slots ⊎ HoldsTag slot tag beside_new.volume
    pub then : slot.tells → AllRest disk old new
        ⊎ (HoldsNote (found_in note_in slot.seen beside_new.slots) None × HoldsTag slot tag beside_new.volume)
    pub then_durable : slot.tells → IsSynced slot.seen slot.may_leave beside.slots
        → AllRest disk old new ⊎ LeavesNote slot None beside_new.slots
    -- `Occupied` of it comes exactly where something is there of it. Then nothing is written.
    pub occupied : disk.tells → slot.tells → IsErrOf result (Occupied me) → IsFree me old beside → ⊥
    pub occupied_comes : disk.tells → slot.tells → (IsFree me old beside → ⊥)
        → IsErrAnd result (λ fault. (fault ≡ Occupied me) ⊎ (fault ≡ Store me))
    pub rests : disk.tells → slot.tells → (IsFree me old beside → ⊥)
        → AllRest disk old new × BesideRests slot beside beside_new
    -- `Occupied` of another comes only where the pair that stands in for its own holds something.
    pub others : disk.tells → (q : ℕ) → q ≢ me → IsErrOf result (Occupied q) → IsEmptyAt disk.seen old q → ⊥
    -- `Store` comes only where a disk of the named member has failed, and no other fault where one has.
    pub failed : (r : ℕ) → IsErrOf result (Store r)
        → IsAtFault disk.faults old new r ⊎ ((r ≡ me) × BesideFailed slot beside beside_new)
    pub spared : (fault : WorldFault) → IsUnfailed fault → IsErrOf result fault
        → Steady disk.faults old new × BesideSteady slot beside beside_new
    pub steady : OnOk result (Steady disk.faults old new × BesideSteady slot beside beside_new)
    pub never : (r : ℕ) → IsErrOf result (Image r) → ⊥
