-- What the lines of a script come to on a machine, and what is put of it.
use Rattle.std.specs.Prelude.{◌≡◌, ◌⊎◌, ℕ, List, [], ◌∷◌, ◌++◌, Result, IfErr, IfOk, IsErr, IsErrOf, OnOk}
use Rattle.ficus_disk.specs.Pair.{PairRose}
use Rattle.ficus_disk.specs.declared.disk.Disk.{Ghosts as Disk}
use Rattle.ficus_disk.specs.declared.pair.Pair.{Pair}
use Rattle.ficus_keeper.specs.Pairs.{PairSame}
use Rattle.ficus_keeper.specs.declared.keep.Keep.{Ghosts as Keep}
use Rattle.ficus_loop.specs.Puts.{PutsFront}
use Rattle.ficus_loop.specs.declared.fault.AnsweringFault.TheVariants.{Memory, Sink as SinkFault}
use Rattle.ficus_machine.specs.Answers.{LineAnswers}
use Rattle.ficus_machine.specs.Line.{GoesOn, GoesSomehow}
use Rattle.ficus_machine.specs.Machine.{IsAtRest, IsNoted, KeepsMachine, MachineState}
use Rattle.ficus_machine.specs.Moments.{Lives, LivesTo, moment_of}
use Rattle.ficus_machine.specs.Noting.{IsFull}
use Rattle.ficus_mailbox.specs.declared.mailbox.Mailbox.{Ghosts as Mailbox}
use Rattle.ficus_member_script.specs.MemberAnswer.{member_answer_text_of}
use Rattle.ficus_member_script.specs.declared.member_answer.MemberAnswer.{MemberAnswer}
use Rattle.ficus_member_script.specs.declared.member_line.MemberLine.{MemberLine}
use Rattle.ficus_opening.specs.declared.fault.WorldFault.TheVariants.{Store}
use Rattle.ficus_outside.specs.declared.sink.Sink.{Ghosts as Sink}
use Rattle.ficus_top.specs.declared.fault.Fault.{Fault}
use Rattle.ficus_top.specs.declared.fault.Fault.TheVariants.{Answering, Storing}
use Rattle.ficus_world.specs.Disks.{IsBacked}
use Rattle.ficus_world.specs.Machines.Together.{Told}
use Rattle.ficus_member.specs.Lines.{texts_of}

module _ {K M : Type 0} (mailbox : Mailbox M) (disks_tell : Type 0) where
  -- The machine goes on by what the line asks for, and this is the answer, with its cause.
  pub record AnswersLine (line : MemberLine) (answer : MemberAnswer) (old new : MachineState K) (was now : M) :
      Type 0 where
    pub told : List Told
    pub goes : GoesOn mailbox disks_tell old.me old.tag told old.world.whole new.world.whole was now
    pub answers : LineAnswers mailbox disks_tell old.me old.tag new.note.asked old.world.whole new.world.whole was now
        line told answer
    pub noted : IsNoted new.world.whole new.me new.note.asked
    pub same : KeepsMachine old new

  -- Line by line, the lines have these answers, one each, and lead from the one machine to the other.
  pub data Answered : List MemberLine → List MemberAnswer → MachineState K → MachineState K → M → M → Type 0 where
    None : {machine : MachineState K} {there : M} → Answered [] [] machine machine there there
    One : {line : MemberLine} {answer : MemberAnswer} {lines : List MemberLine} {answers : List MemberAnswer}
        {old middle new : MachineState K} {was there now : M} → AnswersLine line answer old middle was there
        → Answered lines answers middle new there now
        → Answered (line ∷ lines) (answer ∷ answers) old new was now

-- A line is answered, and the text of the answer is put.
pub record PutsAnswer {K M O : Type 0} (mailbox : Mailbox M) (disks_tell : Type 0) (sink : Sink O) (line : MemberLine)
    (old new : MachineState K) (was now : M) (put out : O) : Type 0 where
  pub answer : MemberAnswer
  pub answers : AnswersLine mailbox disks_tell line answer old new was now
  pub text : sink.tells → sink.written out ≡ sink.written put ++ member_answer_text_of answer

-- Member `me` is named where its note isn't saved: then a disk of the note has failed, or no further one can be saved;
-- and no disk of it has failed where all went well.
pub record TellsOfNote {K N A : Type 0} (slot : Disk N) (me : ℕ) (result : Result A Fault) (new : MachineState K)
    (slots new_slots : Pair N) : Type 0 where
  pub failed : (r : ℕ) → IsErrOf result (Storing (Store r))
      → (r ≡ me) × (PairRose slot.faults 1 slots new_slots ⊎ IsFull new.note)
  pub steady : OnOk result (PairSame slot.faults slots new_slots)

-- the fault with which a line ends that has no answer: memory was refused, or the note of member `me` wasn't saved
abbrev pub IsUnanswered : ℕ → Fault → Type 0
IsUnanswered me fault = (fault ≡ Answering Memory) ⊎ (fault ≡ Storing (Store me))

-- the fault with which lines end: one of those, or the sink failed
abbrev pub IsOfLines : ℕ → Fault → Type 0
IsOfLines me fault = IsUnanswered me fault ⊎ (fault ≡ Answering SinkFault)

-- A line is carried out.
pub record CarriesOutLine {K D N M : Type 0} (keep : Keep K) (disk : Disk D) (slot : Disk N) (mailbox : Mailbox M)
    (line : MemberLine) (result : Result MemberAnswer Fault) (old new : MachineState K)
    (disks new_disks : List (Pair D)) (slots new_slots : Pair N) (was now : M) : Type 0 where
  pub answers : IfOk result (λ answer. AnswersLine mailbox disk.tells line answer old new was now)
  pub unanswered : IfErr result (IsUnanswered old.me)
  pub goes : GoesSomehow mailbox disk.tells old.me old.tag old.world.whole new.world.whole was now
  pub rest : OnOk result (IsAtRest keep disk slot new new_disks new_slots)
  pub backed : IsBacked keep disk new.world new_disks
  pub same : KeepsMachine old new
  pub note : TellsOfNote slot old.me result new slots new_slots
  pub lives : LivesTo keep disk slot (IsErr result → ⊥) old new disks new_disks slots new_slots

-- All lines are answered, and the texts of the answers were put, in order, and nothing else. The whole is what one
-- machine does alone. All is as between lines then.
pub record AnswersAll {K D N M O : Type 0} (keep : Keep K) (disk : Disk D) (slot : Disk N) (mailbox : Mailbox M)
    (sink : Sink O) (lines : List MemberLine) (old new : MachineState K) (disks new_disks : List (Pair D))
    (slots new_slots : Pair N) (was now : M) (put out : O) : Type 0 where
  pub answers : List MemberAnswer
  pub answered : Answered mailbox disk.tells lines answers old new was now
  pub goes : GoesSomehow mailbox disk.tells old.me old.tag old.world.whole new.world.whole was now
  pub texts : sink.tells → sink.written out ≡ sink.written put ++ texts_of answers
  pub rest : IsAtRest keep disk slot new new_disks new_slots
  pub same : KeepsMachine old new
  -- What is done to the disks and to the note at each moment of it, so that a kill at any of them is known.
  pub lives : Lives keep disk slot old.me (moment_of old disks slots) (moment_of new new_disks new_slots)

-- How it ended at a line with this fault.
pub data BreaksOff {K M O : Type 0} (mailbox : Mailbox M) (disks_tell : Type 0) (sink : Sink O) (line : MemberLine)
    (fault : Fault) (old new : MachineState K) (was now : M) (put out : O) : Type 0 where
  -- It has no answer. The machine may have done something.
  Unanswered : IsUnanswered old.me fault
      → GoesSomehow mailbox disks_tell old.me old.tag old.world.whole new.world.whole was now
      → KeepsMachine old new → out ≡ put → BreaksOff mailbox disks_tell sink line fault old new was now put out
  -- Its answer isn't put: memory was refused for its text.
  Untold : {answer : MemberAnswer} → fault ≡ Answering Memory
      → AnswersLine mailbox disks_tell line answer old new was now → out ≡ put
      → BreaksOff mailbox disks_tell sink line fault old new was now put out
  -- Or the sink failed, and a front of its text was put.
  Unput : {answer : MemberAnswer} → fault ≡ Answering SinkFault
      → AnswersLine mailbox disks_tell line answer old new was now
      → (sink.tells → PutsFront (sink.written put) (member_answer_text_of answer) (sink.written out))
      → BreaksOff mailbox disks_tell sink line fault old new was now put out

-- The first of the lines are answered, and the texts of the answers were put; it ended at the one behind them. The
-- whole is what one machine does alone, and the disks stand under its world.
pub record AnswersSome {K D N M O : Type 0} (keep : Keep K) (disk : Disk D) (slot : Disk N) (mailbox : Mailbox M)
    (sink : Sink O) (lines : List MemberLine) (fault : Fault) (old new : MachineState K)
    (disks new_disks : List (Pair D)) (slots new_slots : Pair N) (was now : M) (put out : O) : Type 0 where
  pub first : List MemberLine
  pub line : MemberLine
  pub others : List MemberLine
  pub are : lines ≡ first ++ line ∷ others
  pub answers : List MemberAnswer
  pub middle : MachineState K
  pub there : M
  pub told : O
  pub answered : Answered mailbox disk.tells first answers old middle was there
  pub texts : sink.tells → sink.written told ≡ sink.written put ++ texts_of answers
  pub breaks : BreaksOff mailbox disk.tells sink line fault middle new there now told out
  pub goes : GoesSomehow mailbox disk.tells old.me old.tag old.world.whole new.world.whole was now
  pub backed : IsBacked keep disk new.world new_disks
  -- What is done to the disks and to the note at each moment of it.
  pub lives : LivesTo keep disk slot ⊥ old new disks new_disks slots new_slots
  -- Where the note wasn't saved, a disk of it has failed, or no further one can be saved.
  pub unsaved : fault ≡ Storing (Store old.me) → PairRose slot.faults 1 slots new_slots ⊎ IsFull new.note

-- A line is carried out, and the text of its answer put; or it ended there.
pub record EndsLine {K D N M O : Type 0} (keep : Keep K) (disk : Disk D) (slot : Disk N) (mailbox : Mailbox M)
    (sink : Sink O) (line : MemberLine) (result : Result (Unit {0}) Fault) (old new : MachineState K)
    (disks new_disks : List (Pair D)) (slots new_slots : Pair N) (was now : M) (put out : O) : Type 0 where
  pub puts : OnOk result (PutsAnswer mailbox disk.tells sink line old new was now put out)
  pub breaks : IfErr result (λ fault. BreaksOff mailbox disk.tells sink line fault old new was now put out)
  pub goes : GoesSomehow mailbox disk.tells old.me old.tag old.world.whole new.world.whole was now
  pub rest : OnOk result (IsAtRest keep disk slot new new_disks new_slots)
  pub backed : IsBacked keep disk new.world new_disks
  pub same : KeepsMachine old new
  pub note : TellsOfNote slot old.me result new slots new_slots
  pub lives : LivesTo keep disk slot (IsErr result → ⊥) old new disks new_disks slots new_slots
