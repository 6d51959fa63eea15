-- What it means that a script is run for a member.
use Rattle.std.specs.Prelude.{◌≡◌, ◌≢◌, ◌⊎◌, ℕ, List, Option, Result, Ok, IfErr, IsErrAnd, IsErrOf, OnOk}
use Rattle.ficus_disk.specs.Pair.{PairRose}
use Rattle.ficus_disk.specs.declared.disk.Disk.{Ghosts as Disk}
use Rattle.ficus_disk.specs.declared.pair.Pair.{Pair}
use Rattle.ficus_faults.specs.Faults.{Rose}
use Rattle.ficus_keeper.specs.Calls.{Keeps}
use Rattle.ficus_keeper.specs.Kept.{found_in}
use Rattle.ficus_machine.specs.Machine.{MachineState}
use Rattle.ficus_machine.specs.Noting.{IsFull}
use Rattle.ficus_machine.specs.Opening.{OpensMachine}
use Rattle.ficus_member_script.specs.MemberLine.{IsMemberScript}
use Rattle.ficus_member_script.specs.declared.member_line.MemberLine.{MemberLine}
use Rattle.ficus_note.specs.Noted.{FitsNote, HoldsNote}
use Rattle.ficus_note.specs.declared.asked.Asked.{Asked as Noted}
use Rattle.ficus_opening.specs.Check.Judged.{HoldsNoneOf}
use Rattle.ficus_opening.specs.Opening.{IsAtFault, IsUnfailed, Steady}
use Rattle.ficus_opening.specs.Rests.{PairRests}
use Rattle.ficus_opening.specs.declared.fault.WorldFault.{WorldFault}
use Rattle.ficus_opening.specs.declared.fault.WorldFault.TheVariants.{Image, Memory, Occupied, Store}
use Rattle.ficus_runs.specs.Numbered.{IsNumbered}
use Rattle.ficus_top.specs.Ending.{IsInterruption, TakesAsEndedIn, TellsOfStreams}
use Rattle.ficus_top.specs.Summary.Keeper.{Keeper, keeper, kept_in}
use Rattle.ficus_top.specs.declared.fault.Fault.{Fault}
use Rattle.ficus_top.specs.declared.fault.Fault.TheVariants.{Answering, Reading, Storing, Words}
use Rattle.ficus_two_slots.specs.Slots.{kept_in as note_in}
use Rattle.ficus_member.specs.Answered.{AnswersAll, AnswersSome}
use Rattle.ficus_member.specs.Lines.{of_member_lines}
use Rattle.ficus_member.specs.Making.{BesideSteady, IsEmptyAt}
use Rattle.ficus_member.specs.Seen.{Seen, StaysThere, disks_after, disks_before, left_of, script_of}
use Rattle.ficus_member.specs.TagFile.{FileRests, SpellsLine, SpellsNoTag}

-- the disks of the member hold nothing of its own
abbrev pub IsBadAt : {D : Type 0} → Disk D → ℕ → List (Pair D) → Type 0
IsBadAt {D} disk me disks = (own : Pair D) → IsNumbered disks me own → HoldsNoneOf kept_in disk.seen me own

-- no note is kept
abbrev pub HoldsNoNote : {N : Type 0} → Disk N → Pair N → Type 0
HoldsNoNote slot slots =
    (noted : Option Noted) → FitsNote noted → HoldsNote (found_in note_in slot.seen slots) noted → ⊥

module _ {S K D N M : Type 0} where
  -- The member can't be opened: there is no tag of its volume, its disks hold nothing of its own, or no note is kept.
  abbrev pub IsUnopenable : ℕ → Seen S K D N M → Type 0
  IsUnopenable me seen =
      SpellsNoTag (seen.slot.seen seen.beside.old.volume) ⊎ IsBadAt seen.disk me (disks_before seen)
      ⊎ HoldsNoNote seen.slot seen.beside.old.slots

  -- Its machine is opened, with the tag that the file holds.
  pub record OpensIts (me : ℕ) (seen : Seen S K D N M) : Type 0 where
    pub tag : List ℕ
    pub spelled : seen.slot.tells → SpellsLine (seen.slot.seen seen.beside.old.volume) tag
    pub begun : MachineState Keeper
    pub disks : List (Pair D)
    pub slots : Pair N
    pub opens : OpensMachine keeper seen.disk seen.slot me tag (Ok begun) (disks_before seen) disks
        seen.beside.old.slots slots

  -- It was opened, and each line of the script was answered on it.
  pub record AnswersScript (me : ℕ) (seen : Seen S K D N M) : Type 0 where
    pub opened : OpensIts me seen
    pub lines : List MemberLine
    pub script : seen.source.tells → IsMemberScript (script_of seen) lines
    pub after : MachineState Keeper
    pub answers : AnswersAll keeper seen.disk seen.slot seen.mailbox seen.sink lines opened.begun after
        opened.disks (disks_after seen) opened.slots seen.beside.new.slots seen.mail.old seen.mail.new
        seen.output.old seen.output.new

  -- It was opened, and the first lines of the script were answered on it.
  pub record AnswersFront (fault : Fault) (me : ℕ) (seen : Seen S K D N M) : Type 0 where
    pub opened : OpensIts me seen
    pub lines : List MemberLine
    pub script : seen.source.tells → IsMemberScript (script_of seen) lines
    pub after : MachineState Keeper
    pub answers : AnswersSome keeper seen.disk seen.slot seen.mailbox seen.sink lines fault opened.begun after
        opened.disks (disks_after seen) opened.slots seen.beside.new.slots seen.mail.old seen.mail.new
        seen.output.old seen.output.new

  -- No line was carried out: nothing is put, neither an answer nor a message, and nothing is written on the member's
  -- own disks and on those of the note.
  pub record StaysUnopened (me : ℕ) (seen : Seen S K D N M) : Type 0 where
    pub output : seen.output.new ≡ seen.output.old
    pub mail : seen.mail.new ≡ seen.mail.old
    pub own : (was now : Pair D) → IsNumbered (disks_before seen) me was → IsNumbered (disks_after seen) me now
        → PairRests seen.disk was now
    pub slots : Keeps seen.slot.tells seen.slot.tells_moments seen.slot.seen seen.slot.may_leave seen.slot.moment
        seen.slot.left_since seen.beside.old.slots seen.beside.new.slots

  -- What is known where it ended with this fault.
  abbrev pub EndsEarly : ℕ → Seen S K D N M → Fault → Type 0
  EndsEarly me seen (Words fault) = ⊥
  EndsEarly me seen (Reading fault) = StaysThere seen × (seen.output.new ≡ seen.output.old)
  EndsEarly me seen (Storing (Store r)) = StaysUnopened me seen ⊎ AnswersFront (Storing (Store r)) me seen
  EndsEarly me seen (Storing Memory) = StaysUnopened me seen
  EndsEarly me seen (Storing (Image r)) = StaysUnopened me seen
  EndsEarly me seen (Storing (Occupied r)) = StaysUnopened me seen
  EndsEarly me seen (Answering fault) = AnswersFront (Answering fault) me seen

  -- What keeps the member has failed: a disk of this number, or, where that is the member's own, what lies beside; or
  -- the note can't be saved any more.
  abbrev pub HasFailedAt : ℕ → Seen S K D N M → ℕ → Type 0
  HasFailedAt me seen r =
      IsAtFault seen.disk.faults (disks_before seen) (disks_after seen) r
      ⊎ ((r ≡ me) × (Rose (seen.slot.faults seen.beside.old.volume) (seen.slot.faults seen.beside.new.volume)
      ⊎ PairRose seen.slot.faults 1 seen.beside.old.slots seen.beside.new.slots
      ⊎ ((front : AnswersFront (Storing (Store me)) me seen) × IsFull front.after.note)))

  -- The script is run for member `me`, and it ended so.
  pub record RunsScript (me : ℕ) (seen : Seen S K D N M) (ended : Result (Unit {0}) Fault) : Type 0 where
    -- All of the source was taken where it isn't the script that it ended for.
    pub takes : seen.source.tells → TakesAsEndedIn of_member_lines (script_of seen) (left_of seen) ended
    pub streams : TellsOfStreams (seen.source.faults seen.input.old) (seen.source.faults seen.input.new)
        (seen.sink.faults seen.output.old) (seen.sink.faults seen.output.new) ended
    -- `Image` names the member, and comes exactly where it can't be opened: for the tag and for its own disks wherever
    -- this is so, unless a fault comes before.
    pub image : seen.disk.tells → seen.slot.tells → (r : ℕ) → IsErrOf ended (Storing (Image r))
        → (r ≡ me) × IsUnopenable me seen
    pub tagless : seen.slot.tells → SpellsNoTag (seen.slot.seen seen.beside.old.volume)
        → IsErrAnd ended (λ fault. (fault ≡ Storing (Image me)) ⊎ IsInterruption fault)
    pub bad : seen.disk.tells → IsBadAt seen.disk me (disks_before seen)
        → IsErrAnd ended (λ fault. (fault ≡ Storing (Image me)) ⊎ IsInterruption fault)
    -- For the note too, unless a pair that stands in for another's holds something.
    pub noteless : seen.disk.tells → seen.slot.tells → HoldsNoNote seen.slot seen.beside.old.slots
        → IsErrAnd ended (λ fault. (fault ≡ Storing (Image me)) ⊎ IsInterruption fault
        ⊎ ((q : ℕ) × (fault ≡ Storing (Occupied q))))
    -- `Occupied` comes only where the pair that stands in for another's holds something.
    pub occupied : seen.disk.tells → (q : ℕ) → IsErrOf ended (Storing (Occupied q))
        → (q ≢ me) × (IsEmptyAt seen.disk.seen (disks_before seen) q → ⊥)
    -- `Store` comes only where what keeps the named member has failed; and nothing of that has where the machine wasn't
    -- opened for another cause.
    pub failed : (r : ℕ) → IsErrOf ended (Storing (Store r)) → HasFailedAt me seen r
    pub unfailed : (fault : WorldFault) → IsUnfailed fault → IsErrOf ended (Storing fault)
        → Steady seen.disk.faults (disks_before seen) (disks_after seen)
        × BesideSteady seen.slot seen.beside.old seen.beside.new
    -- Nothing is written to the file of the tag.
    pub volume : FileRests seen.slot seen.beside.old.volume seen.beside.new.volume
    -- What was answered.
    pub answers : OnOk ended (AnswersScript me seen)
    pub early : IfErr ended (EndsEarly me seen)
